-- The pieces of a string, as the code has them.
use Rattle.std.specs.Prelude.{ℕ}
use Rattle.std.specs.Char.{is_ascii_digit}
use Rattle.std.specs.List.{AllPass}
use Rattle.nml_tree.specs.Attribute as attribute
use Rattle.nml_tree.specs.Attribute.{FormatPiece}
use Rattle.nml_texts.specs.declared.piece.Piece.{Piece}
use Rattle.nml_texts.specs.declared.piece.Piece.TheVariants as piece

-- a piece, without where its digits lie in memory
abbrev pub seen : Piece → FormatPiece
seen (piece.Letter c) = attribute.Letter c
seen (piece.Directive digits letter) = attribute.Directive digits.now letter

-- what stands between a directive's `%` and its letter are digits
abbrev pub AreDigits : Piece → Type 0
AreDigits (piece.Letter c) = Unit {0}
AreDigits (piece.Directive digits letter) = AllPass is_ascii_digit digits.now
