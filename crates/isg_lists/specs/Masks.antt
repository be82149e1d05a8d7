-- The shapes of a description by their masks.
use Rattle.std.specs.Prelude.{ℕ, ◌≡◌, ◌≤◌, ◌<◌, ◌==◌, Bool, if◌then◌else◌, List, [], ◌∷◌, length, map, Option, None, Some, slice_get, slice_index_or, bit_and}
use Rattle.std.specs.List.Sorted.{IsPermutation, IsNonDecreasingBy}
use Rattle.nml_shape.specs.declared.shape.Shape.{Shape}
use Rattle.nml_shape.specs.Common.{HasWord}
use Rattle.isg_lists.specs.Numbers.{numbers_where}
use Rattle.isg_lists.specs.declared.masks.OfMask.{OfMask}
use Rattle.isg_lists.specs.declared.masks.Masks.{Masks}

-- these masks, and behind them this one where it is new
abbrev pub with_mask : List ℕ → ℕ → List ℕ
with_mask [] m = m ∷ []
with_mask (x ∷ xs) m = if m == x then x ∷ xs else x ∷ with_mask xs m

-- the masks so far, and behind them those of the shapes that are new, each where it is first seen
abbrev pub masks_behind : List ℕ → List Shape → List ℕ
masks_behind ms [] = ms
masks_behind ms (s ∷ ss) = masks_behind (with_mask ms s.mask) ss

-- the different masks of the shapes, in the order first seen
abbrev pub masks : List Shape → List ℕ
masks shapes = masks_behind [] shapes

-- the shape has this mask
abbrev pub has_mask : ℕ → Shape → Bool
has_mask mask s = mask == s.mask

-- the value of the shape of this number; 0 where there is none
abbrev pub value_or : Option Shape → ℕ
value_or None = 0
value_or (Some s) = s.value

abbrev pub value_at : List Shape → ℕ → ℕ
value_at shapes n = value_or (slice_get shapes n)

-- the numbers of exactly the shapes with this mask, each once, in rising order of their values
pub record AreOfMask (shapes : List Shape) (mask : ℕ) (numbers : List ℕ) : Type 0 where
  pub same : IsPermutation (numbers_where (has_mask mask) shapes) numbers
  pub rise : IsNonDecreasingBy (value_at shapes) numbers

-- the masks that are kept
abbrev pub masks_in : Masks → List ℕ
masks_in m = m.masks.items

-- the numbers that are kept for the mask of number k; none where there is no such mask
abbrev pub numbers_or : Option OfMask → List ℕ
numbers_or None = []
numbers_or (Some l) = l.numbers.items

abbrev pub of_mask : Masks → ℕ → List ℕ
of_mask m k = numbers_or (slice_get m.lists.items k)

-- what is kept for one mask
pub record IsListOf (shapes : List Shape) (l : OfMask) : Type 0 where
  pub numbers_are : AreOfMask shapes l.mask l.numbers.items
  pub values_are : l.values.items ≡ map (value_at shapes) l.numbers.items

-- the masks of the shapes are kept in the order first seen, and for each the numbers of its shapes
pub record AreMasks (shapes : List Shape) (m : Masks) : Type 0 where
  pub masks_are : masks_in m ≡ masks shapes
  pub of_mask_are : (k mask : ℕ) → slice_get (masks shapes) k ≡ Some mask → AreOfMask shapes mask (of_mask m k)
  pub kept : map (λ l. l.mask) m.lists.items ≡ masks shapes
  pub each : (k : ℕ) (l : OfMask) → slice_get m.lists.items k ≡ Some l → IsListOf shapes l

-- no shape has the word
abbrev pub HasNone : List Shape → ℕ → Type 0
HasNone shapes word = (n : ℕ) (s : Shape) → slice_get shapes n ≡ Some s → HasWord s word → ⊥

-- the shape of this number has the word
abbrev pub HasAt : List Shape → ℕ → ℕ → Type 0
HasAt shapes word n = (s : Shape) × (slice_get shapes n ≡ Some s) × HasWord s word

-- no shape with this mask has the word
abbrev pub HasNoneOf : ℕ → List Shape → ℕ → Type 0
HasNoneOf mask shapes word = (n : ℕ) (s : Shape) → slice_get shapes n ≡ Some s → s.mask ≡ mask → HasWord s word → ⊥

-- each of these values is at most the next
abbrev pub IsRising : List ℕ → Type 0
IsRising xs = (i j : ℕ) → i ≤ j → j < length xs → slice_index_or xs i 0 ≤ slice_index_or xs j 0

-- none of these is the value
abbrev pub IsMissing : List ℕ → ℕ → Type 0
IsMissing xs x = (i : ℕ) → slice_get xs i ≡ Some x → ⊥

-- no shape's value has a bit outside its mask
abbrev pub AreWithin : List Shape → Type 0
AreWithin shapes = (n : ℕ) (s : Shape) → slice_get shapes n ≡ Some s → bit_and s.value s.mask ≡ s.value

-- the values of these numbers rise, and no two are the same
abbrev pub RiseStrictly : List Shape → List ℕ → Type 0
RiseStrictly shapes numbers = (i j : ℕ) → i < j → j < length numbers → value_at shapes (slice_index_or numbers i 0) < value_at shapes (slice_index_or numbers j 0)
