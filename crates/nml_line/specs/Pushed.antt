-- What of a line was written as tokens, and what is left of it.
use Rattle.std.specs.Prelude.{ℕ, ◌≡◌, ◌≤◌, ◌<◌, List, ◌++◌, map, length, drop, [], ◌∷◌, if◌then◌else◌}
use Rattle.std.specs.Char.{is_ascii_digit}
use Rattle.std.specs.List.{prefix_len}
use Rattle.nk_base.specs.Byte.{is_blank}
use Rattle.nml_tree.specs.LineToken.{line_tokens}
use Rattle.nml_tree.specs.Outline.{Written}
use Rattle.nml_shape.specs.declared.shape.Piece.{Piece}
use Rattle.nml_shape.specs.declared.shape.Piece.TheVariants as piece
use Rattle.nml_shape.specs.Shown.{token_of}

-- no more than 38 digits stand in a row
abbrev pub HasShortNumbers : List ℕ → Type 0
HasShortNumbers text = (k : ℕ) → prefix_len is_ascii_digit (drop k text) ≤ 38

-- the tokens and those of what is left are those from before and those of the line
pub record IsPushed (line : List ℕ) (old new : List Piece) (rest : List ℕ) : Type 0 where
  pub same : map token_of new ++ map Written (line_tokens rest) ≡ map token_of old ++ map Written (line_tokens line)
  pub short : HasShortNumbers rest
  pub shorter : length rest < length line

-- a byte that begins no word and no number
abbrev pub marks : ℕ → List Piece
marks c = if is_blank c then [] else piece.Mark c ∷ []
