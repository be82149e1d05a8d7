-- The least numbers with which two shapes have one list of tokens, place by place.
use Rattle.std.specs.Prelude.{ℤ, int_lt, if◌then◌else◌, List, ◌∷◌, map, Option, Some, None, slice_set}
use Rattle.nml_shape.specs.declared.shape.FieldAt.{FieldAt}
use Rattle.nml_shape.specs.declared.shape.Piece.{Piece}
use Rattle.nml_shape.specs.declared.shape.Piece.TheVariants as piece
use Rattle.nml_shape.specs.declared.shape.Shape.{Shape}
use Rattle.shape_table.specs.Meet.{range, span}
use Rattle.shape_table.specs.declared.token.Span.{Span}

-- the larger of two numbers
abbrev pub larger : ℤ → ℤ → ℤ
larger x y = if int_lt x y then y else x

-- the least number of two spans that meet
abbrev pub least_by : Option Span → Option Span → Option ℤ
least_by None y = None
least_by (Some x) None = None
least_by (Some x) (Some y) = Some (larger x.low y.low)

-- of two tokens that meet, a number at least
abbrev pub least : (fs gs : List FieldAt) → Piece → Piece → Option ℤ
least fs gs p q = least_by (span fs p) (span gs q)

-- the numbers with this one in the field that the token is
abbrev pub placed : Piece → Option ℤ → List ℤ → List ℤ
placed (piece.Field n) (Some z) zs = slice_set zs n z
placed _ _ zs = zs

-- the numbers with the least one in each field that is a token
abbrev pub leasts : (fs gs : List FieldAt) → List Piece → List Piece → List ℤ → List ℤ
leasts fs gs (p ∷ ps) (q ∷ qs) zs = leasts fs gs ps qs (placed p (least fs gs p q) zs)
leasts fs gs _ _ zs = zs

-- the lowest number of each field
abbrev pub lows : List FieldAt → List ℤ
lows fs = map (λ f. (range f.ty).low) fs

-- the least numbers of the first of two shapes
abbrev pub least_numbers : Shape → Shape → List ℤ
least_numbers a b = leasts a.fields.items b.fields.items a.template.items b.template.items (lows a.fields.items)
