-- The bits that each token gives, and the word of all of them.
use Rattle.std.specs.Prelude.{ℕ, ◌==◌, ◌*◌, ◌^◌, ◌%◌, bit_or, Bool, false, ℤ, unsigned_abs, List, [], ◌∷◌, Option, Some, None, option_and_then, slice_get, if◌then◌else◌}
use Rattle.std.specs.Ordering.{int_eq}
use Rattle.nk_base.specs.Number.{width_of, low_bits}
use Rattle.nk_base.specs.Text.{text_eq}
use Rattle.nk_range.specs.Range.{is_in_range}
use Rattle.nml_shape.specs.declared.shape.FieldAt.{FieldAt}
use Rattle.nml_shape.specs.declared.shape.Piece.{Piece}
use Rattle.nml_shape.specs.declared.shape.Piece.TheVariants as piece

-- the bits of a number at the place of the field, in 128 bits
abbrev pub placed : FieldAt → ℤ → ℕ
placed f z = unsigned_abs (low_bits (width_of f.ty) z) * 2 ^ f.low % 2 ^ 128

-- where the number is in range of the field
abbrev pub field_bits : ℤ → FieldAt → Option ℕ
field_bits z f = if is_in_range f.ty z then Some (placed f z) else None

-- and there is the field
abbrev pub number_bits : List FieldAt → ℕ → ℤ → Option ℕ
number_bits fs n z = option_and_then (field_bits z) (slice_get fs n)

-- one word, one number, or one mark
abbrev pub is_same : Piece → Piece → Bool
is_same (piece.Word w) (piece.Word v) = text_eq w v
is_same (piece.Number z) (piece.Number y) = int_eq z y
is_same (piece.Mark c) (piece.Mark d) = c == d
is_same _ _ = false

-- no bits
abbrev pub zero_where : Bool → Option ℕ
zero_where is = if is then Some 0 else None

-- what the token gives that stands at the place of this piece
abbrev pub bits : List FieldAt → Piece → Piece → Option ℕ
bits fs (piece.Field n) (piece.Number z) = number_bits fs n z
bits fs p t = zero_where (is_same p t)

-- the bits of all, behind those of this word
abbrev pub joined : List FieldAt → ℕ → List Piece → List Piece → Option ℕ
joined fs w [] [] = Some w
joined fs w (p ∷ ps) (t ∷ ts) = option_and_then (λ b. joined fs (bit_or w b) ps ts) (bits fs p t)
joined fs w _ _ = None
