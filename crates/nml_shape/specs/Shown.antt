-- Shapes as the code holds them, and what they are of a description.
use Rattle.std.specs.Prelude.{ℕ, ◌≡◌, ◌/◌, ◌%◌, ◌^◌, ℤ, pos, List, map, Some, slice_get, Contains}
use Rattle.nk_base.specs.Number.{wrapped, width_of}
use Rattle.nk_base.specs.declared.number.Ty.{Ty}
use Rattle.nml_tree.specs.LineToken as line_token
use Rattle.nml_tree.specs.Table.{table}
use Rattle.nml_tree.specs.Derivation.{Derivation, picks}
use Rattle.nml_tree.specs.Outline as outline
use Rattle.nml_tree.specs.Outline.{OutlineToken, types, mask, fixed_value, low, template}
use Rattle.nml_tree.specs.Valid.{IsRoot}
use Rattle.nml_tree.specs.Shapes.{AreShapes}
use Rattle.nml_tree.specs.declared.tree.Desc.{Desc}
use Rattle.nml_shape.specs.declared.shape.FieldAt.{FieldAt}
use Rattle.nml_shape.specs.declared.shape.Piece.{Piece}
use Rattle.nml_shape.specs.declared.shape.Piece.TheVariants as piece
use Rattle.nml_shape.specs.declared.shape.Shape.{Shape}

-- a token of a shape, as the definitions have it
abbrev pub token_of : Piece → OutlineToken
token_of (piece.Word w) = outline.Written (line_token.Word w)
token_of (piece.Number z) = outline.Written (line_token.Number z)
token_of (piece.Mark c) = outline.Written (line_token.Mark c)
token_of (piece.Field n) = outline.FieldAt n

-- the types of fields
abbrev pub types_of : List FieldAt → List Ty
types_of fs = map (λ f. f.ty) fs

-- the number that a word has in a field
abbrev pub number_in : ℕ → FieldAt → ℤ
number_in w f = wrapped f.ty (pos (w / 2 ^ f.low % 2 ^ width_of f.ty))

-- and in each of these
abbrev pub numbers_in : ℕ → List FieldAt → List ℤ
numbers_in w fs = map (number_in w) fs

-- the shape is that of the derivation
pub record IsShapeOf (x : Derivation) (s : Shape) : Type 0 where
  pub mask_is : s.mask ≡ mask x
  pub value_is : s.value ≡ fixed_value x
  pub types_are : types_of s.fields.items ≡ types x
  pub lows_are : (n : ℕ) (f : FieldAt) → slice_get s.fields.items n ≡ Some f → f.low ≡ low n x
  pub template_is : map token_of s.template.items ≡ template x
  pub picks_are : s.picks.items ≡ picks x

-- the picks of shapes
abbrev pub picks_of : List Shape → List (List ℕ)
picks_of shapes = map (λ s. s.picks.items) shapes

-- all shapes of the description in order, each that of its derivations
pub record AreAllShapes (d : Desc) (shapes : List Shape) : Type 0 where
  pub all : AreShapes (table d) (picks_of shapes)
  pub each : (s : Shape) (x : Derivation) → Contains shapes s → IsRoot (table d) x → s.picks.items ≡ picks x → IsShapeOf x s
