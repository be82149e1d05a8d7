-- Labels that shapes with something in common share, and the next number with the same label.
use Rattle.std.specs.Prelude.{ℕ, ◌≡◌, ◌<◌, ◌≤◌, ◌+◌, ◌*◌, ◌%◌, ◌==◌, Bool, true, false, if◌then◌else◌, bit_and, unsigned_abs, List, [], ◌∷◌, length, slice_index_or, slice_get, Option, Some, None, unwrap_or, option_and_then}
use Rattle.nml_shape.specs.declared.shape.Piece.{Piece}
use Rattle.nml_shape.specs.declared.shape.Piece.TheVariants as piece
use Rattle.nml_shape.specs.declared.shape.Shape.{Shape}
use Rattle.nml_shape.specs.Common.{IsSingle}
use Rattle.nml_shape.specs.First.{HaveWord, HaveTokens}
use Rattle.shape_table.specs.Meet.{words_meet, tokens_meet, HasTypes}
use Rattle.shape_table.specs.declared.common.Common.{Common}
use Rattle.shape_table.specs.declared.common.Common.TheVariants as common
use Rattle.shape_table.specs.declared.common.Part.{Part}
use Rattle.shape_table.specs.declared.common.Part.TheVariants as part

-- each of the shapes is so
abbrev pub Each : (Shape → Type 0) → List Shape → Type 0
Each P shapes = (k : ℕ) (s : Shape) → slice_get shapes k ≡ Some s → P s

-- two shapes have a word, or a list of tokens, in common
abbrev pub Have : Common → Shape → Shape → Type 0
Have common.Image = HaveWord
Have common.Syntax = HaveTokens

-- and so it is found by looking
abbrev pub meets : Common → Shape → Shape → Bool
meets common.Image = words_meet
meets common.Syntax = tokens_meet

-- what is to be known of a shape for that
abbrev pub IsReady : Common → Shape → Type 0
IsReady common.Image s = Unit {0}
IsReady common.Syntax s = IsSingle s × HasTypes s

-- both are there and meet
abbrev pub both : (Shape → Shape → Bool) → Option Shape → Option Shape → Bool
both m (Some a) (Some b) = m a b
both m _ _ = false

-- the shapes of these two numbers meet
abbrev pub meets_at : Common → List Shape → ℕ → ℕ → Bool
meets_at c shapes k l = both (meets c) (slice_get shapes k) (slice_get shapes l)

-- shape i meets none of those between
abbrev pub MeetsNone : Common → List Shape → ℕ → ℕ → Type 0
MeetsNone c shapes i j = (l : ℕ) → i < l → l < j → meets_at c shapes i l ≡ false

-- the next shape that meets this one, if there is one
abbrev pub IsPartner : Common → List Shape → ℕ → Option ℕ → Type 0
IsPartner c shapes i None = MeetsNone c shapes i (length shapes)
IsPartner c shapes i (Some j) = (i < j) × (j < length shapes) × (meets_at c shapes i j ≡ true) × MeetsNone c shapes i j

-- a label for each shape; shapes that meet have one label
pub record AreLabels (c : Common) (shapes : List Shape) (labels : List ℕ) : Type 0 where
  pub long : length labels ≡ length shapes
  pub each : (k l : ℕ) → meets_at c shapes k l ≡ true → slice_index_or labels k 0 ≡ slice_index_or labels l 0

-- the next number with the same label, or the length
pub record IsNext (labels : List ℕ) (m j : ℕ) : Type 0 where
  pub behind : m < j
  pub within : j ≤ length labels
  pub same : j < length labels → slice_index_or labels j 0 ≡ slice_index_or labels m 0
  pub none : (l : ℕ) → m < l → l < j → slice_index_or labels l 0 ≡ slice_index_or labels m 0 → ⊥

-- for each number the next one
pub record AreNext (labels next : List ℕ) : Type 0 where
  pub long : length next ≡ length labels
  pub each : (m : ℕ) → m < length labels → IsNext labels m (slice_index_or next m 0)

-- all 128 bits
abbrev pub all_bits : ℕ
all_bits = 340282366920938463463374607431768211455

-- a label and a number more, mixed to a label
abbrev pub mixed : ℕ → ℕ → ℕ
mixed label n = (label * 47026247687942121848144207491837523525 % 340282366920938463463374607431768211456 + n) % 340282366920938463463374607431768211456

-- a label and a text more
abbrev pub mixed_all : ℕ → List ℕ → ℕ
mixed_all label [] = label
mixed_all label (c ∷ cs) = mixed_all (mixed label c) cs

-- the number that the token is, without its sign
abbrev pub size : Piece → Option ℕ
size (piece.Word w) = None
size (piece.Number z) = Some (unsigned_abs z)
size (piece.Mark c) = None
size (piece.Field n) = None

-- that of this token of the shape
abbrev pub size_at : ℕ → Shape → Option ℕ
size_at n s = option_and_then size (slice_get s.template.items n)

-- a number for a word or a mark; one and the same for any number
abbrev pub class : Piece → ℕ
class (piece.Word w) = mixed_all 0 w
class (piece.Number z) = 256
class (piece.Mark c) = c
class (piece.Field n) = 256

-- a label from these of all tokens
abbrev pub classed : ℕ → List Piece → ℕ
classed label [] = label
classed label (p ∷ ps) = classed (mixed label (class p)) ps

-- all bits, or none
abbrev pub bits_if : Option ℕ → ℕ
bits_if None = 0
bits_if (Some w) = all_bits

-- what a part is a part of
abbrev pub whole : Part → Common
whole part.Bits = common.Image
whole (part.Place n) = common.Syntax

-- which bits of the part are fixed in the shape: of a place all or none
abbrev pub fixed_in : Part → Shape → ℕ
fixed_in part.Bits s = s.mask
fixed_in (part.Place n) s = bits_if (size_at n s)

-- a label from what is fixed in all shapes of a label
abbrev pub told : Part → Shape → (fixed label : ℕ) → ℕ
told part.Bits s fixed label = bit_and s.value fixed
told (part.Place n) s fixed label = if fixed == 0 then label else mixed label (unwrap_or (size_at n s) 0)

-- a label from the shape alone
abbrev pub first_label : Common → Shape → ℕ
first_label common.Image s = 0
first_label common.Syntax s = classed (length s.template.items) s.template.items

-- of the first n shapes: what a label has fixed is fixed in each of its shapes
pub record AreCommon (p : Part) (shapes : List Shape) (labels : List ℕ) (fixed : ℕ → ℕ) (n : ℕ) : Type 0 where
  pub each : (k : ℕ) (s : Shape) → k < n → slice_get shapes k ≡ Some s → bit_and (fixed (slice_index_or labels k 0)) (fixed_in p s) ≡ fixed (slice_index_or labels k 0)
