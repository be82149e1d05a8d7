-- For private contracts: the syntax that the instructions of a shape have in common, and that of one of them.
use Rattle.std.specs.Prelude.{ℕ, ◌≡◌, ℤ, List, [], ◌∷◌, ◌++◌, map}
use Rattle.std.specs.Fmt.{signed_decimal}
use Rattle.nml_tree.specs.declared.tree.Desc.{Desc}
use Rattle.nml_tree.specs.Derivation.{Derivation}
use Rattle.nml_tree.specs.Edge.{flat}
use Rattle.nml_tree.specs.Value.{number_at}
use Rattle.nml_shape.specs.declared.shape.Shape.{Shape}
use Rattle.shape_list.specs.Drawn.{flat_of}
use Rattle.shape_list.specs.declared.text.Glyph.{Glyph}
use Rattle.shape_list.specs.declared.text.Glyph.TheVariants as glyph
use Rattle.isg_graph.specs.Graph.{IsOf}

-- the syntax of each instruction of the shape, its fields by their numbers
abbrev pub IsSyntax : Desc → Shape → List Glyph → Type 0
IsSyntax d s gs = (x : Derivation) → IsOf d s x → map flat_of gs ≡ flat 0 x

-- its characters, with these numbers in the fields, in decimal
abbrev pub with_fields : List ℤ → List Glyph → List ℕ
with_fields zs [] = []
with_fields zs (glyph.Letter c ∷ gs) = c ∷ with_fields zs gs
with_fields zs (glyph.Field n ∷ gs) = signed_decimal (number_at zs n) ++ with_fields zs gs
with_fields zs (glyph.Seam ∷ gs) = with_fields zs gs
