-- A piece of a string, and what stands behind it.
use Rattle.std.specs.Prelude.{◌≡◌, ℕ, List, ◌∷◌}
use Rattle.nml_tree.specs.Attribute as attribute
use Rattle.nml_tree.specs.Attribute.{pieces}
use Rattle.nml_upward.specs.declared.piece.Element.{Element}
use Rattle.nml_upward.specs.declared.piece.Element.TheVariants as piece

-- the piece of a string, whatever digits and letter a directive has
abbrev pub IsElement : Element → attribute.FormatPiece → Type 0
IsElement (piece.Letter c) q = q ≡ attribute.Letter c
IsElement piece.Directive q = (digits : List ℕ) × (letter : ℕ) × (q ≡ attribute.Directive digits letter)

-- the string begins with the piece, and these are the pieces behind it
abbrev pub Begins : Element → List ℕ → List ℕ → Type 0
Begins p rest text = (q : attribute.FormatPiece) × IsElement p q × (pieces text ≡ q ∷ pieces rest)
