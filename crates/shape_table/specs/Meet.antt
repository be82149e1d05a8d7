-- Whether two shapes have a word or a list of tokens in common, by looking at the two alone.
use Rattle.std.specs.Prelude.{ℕ, ◌≡◌, ◌==◌, ◌&&◌, ◌^◌, ◌-◌, Bool, false, true, bit_and, bit_xor, pos, neg_ℤ, ◌-ℤ◌, int_le, List, [], ◌∷◌, Option, Some, None, option_map, slice_get}
use Rattle.nk_base.specs.Number.{IsTy}
use Rattle.nk_base.specs.Text.{text_eq}
use Rattle.nk_base.specs.declared.number.Ty.{Ty}
use Rattle.nk_base.specs.declared.number.Ty.TheVariants as ty
use Rattle.nml_shape.specs.declared.shape.FieldAt.{FieldAt}
use Rattle.nml_shape.specs.declared.shape.Piece.{Piece}
use Rattle.nml_shape.specs.declared.shape.Piece.TheVariants as piece
use Rattle.nml_shape.specs.declared.shape.Shape.{Shape}
use Rattle.shape_table.specs.declared.token.Span.{Span}

-- the value has no bit outside the mask
abbrev pub is_within : Shape → Bool
is_within s = bit_and s.value s.mask == s.value

-- and the two values agree where both have fixed bits
abbrev pub words_meet : Shape → Shape → Bool
words_meet a b = is_within a && (is_within b && (bit_and (bit_and (bit_xor a.value b.value) a.mask) b.mask == 0))

-- each of these fields is of a type of 1 to 64 bits
pub record AreTypes (fs : List FieldAt) : Type 0 where
  pub each : (n : ℕ) (f : FieldAt) → slice_get fs n ≡ Some f → IsTy f.ty

-- each field of the shape is
abbrev pub HasTypes : Shape → Type 0
HasTypes s = AreTypes s.fields.items

-- the lowest and the highest number of a type
abbrev pub range : Ty → Span
range ty.Bool = record { low = pos 0; high = pos 1 }
range (ty.Card n) = record { low = pos 0; high = pos (2 ^ n) -ℤ pos 1 }
range (ty.Int n) = record { low = neg_ℤ (pos (2 ^ (n - 1))); high = pos (2 ^ (n - 1)) -ℤ pos 1 }

-- the numbers that may stand for a token: that which is written, or those of its field's type
abbrev pub span : List FieldAt → Piece → Option Span
span fs (piece.Word w) = None
span fs (piece.Number z) = Some (record { low = z; high = z })
span fs (piece.Mark c) = None
span fs (piece.Field n) = option_map (λ f. range f.ty) (slice_get fs n)

-- one word, or one mark
abbrev pub same_written : Piece → Piece → Bool
same_written (piece.Word w) (piece.Word v) = text_eq w v
same_written (piece.Mark c) (piece.Mark d) = c == d
same_written _ _ = false

-- two spans have a number in common, or there are no numbers and the tokens are the same
abbrev pub by_spans : Option Span → Option Span → Bool → Bool
by_spans (Some x) (Some y) same = int_le x.low y.high && int_le y.low x.high
by_spans (Some x) None same = false
by_spans None (Some y) same = false
by_spans None None same = same

-- a token of a shape with the fields fs and one of a shape with the fields gs have a token in common
abbrev pub pieces_meet : (fs gs : List FieldAt) → Piece → Piece → Bool
pieces_meet fs gs p q = by_spans (span fs p) (span gs q) (same_written p q)

-- as many tokens, and each two of them have one in common
abbrev pub all_meet : (fs gs : List FieldAt) → List Piece → List Piece → Bool
all_meet fs gs [] [] = true
all_meet fs gs (p ∷ ps) (q ∷ qs) = pieces_meet fs gs p q && all_meet fs gs ps qs
all_meet fs gs _ _ = false

-- the tokens of two shapes do
abbrev pub tokens_meet : Shape → Shape → Bool
tokens_meet a b = all_meet a.fields.items b.fields.items a.template.items b.template.items
