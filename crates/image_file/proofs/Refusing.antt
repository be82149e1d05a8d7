-- The first wrong field of a whole file, and the image where there is none.
use Rattle.std.proofs.Common.{◌≡◌, ℕ, ◌*◌, ◌%◌, ◌^◌, ◌≤◌, Bool, List, [], ◌++◌, Some, None, sym, ap, subst, ◌∙◌, arith}
use Rattle.std.specs.Prelude.{nat_le, slice_get}
use Rattle.std.proofs.Math.Pow.{pow_mono}
use Rattle.std.proofs.lemmas.Bool.{le-leb, eq-eqb}
use Rattle.image_file.specs.File.{Picture, Init, word_bytes}
use Rattle.image_file.specs.Valid.{Measures, IsImageOf, word_limit}
use Rattle.image_file.specs.Refused.{IsWhole, IsRefused, width_in, digest_in, count_in, cell_count_in, cells_at, unless, word_places, cell_places, value_places}
use Rattle.image_file.specs.Parts.{IsMisshapen, IsValueFault, words_from, inits_from, image_in}
use Rattle.image_file.specs.declared.fault.ImageFault.{ImageFault}
use Rattle.image_file.specs.declared.fault.ImageFault.TheVariants as fault
use Rattle.image_file.proofs.Numbers.{IsBytes}
use Rattle.image_file.proofs.OneFile.{picture_is}
use Rattle.image_file.proofs.Reading.{image_is}
use Rattle.image_file.proofs.Steps.{first_front}

pub misshapen : (m : Measures) (digest bytes : List ℕ) (f : ImageFault) → IsMisshapen bytes f → IsRefused m digest bytes f
misshapen m digest bytes fault.Magic h = h
misshapen m digest bytes (fault.Version found) h = h
misshapen m digest bytes (fault.Short at) h = h
misshapen m digest bytes (fault.Trailing at) h = h
misshapen m digest bytes (fault.Digest wanted found) h = absurd h
misshapen m digest bytes (fault.Value at) h = absurd h
misshapen m digest bytes fault.Memory h = absurd h

-- the first of these places is the first wrong field
pub wrong_value : (m : Measures) (digest bytes places : List ℕ) (f : ImageFault) → IsWhole bytes → digest_in bytes ≡ digest → ((at : ℕ) → slice_get places 0 ≡ Some at → slice_get (value_places m bytes) 0 ≡ Some at) → IsValueFault places f → IsRefused m digest bytes f
wrong_value m digest bytes places fault.Magic w d k h = absurd h
wrong_value m digest bytes places (fault.Version found) w d k h = absurd h
wrong_value m digest bytes places (fault.Short at) w d k h = absurd h
wrong_value m digest bytes places (fault.Trailing at) w d k h = absurd h
wrong_value m digest bytes places (fault.Digest wanted found) w d k h = absurd h
wrong_value m digest bytes places (fault.Value at) w d k h = (w, d, k at h)
wrong_value m digest bytes places fault.Memory w d k h = tt

-- the width and the number of words are right
pub record HasCounts (m : Measures) (bytes : List ℕ) (count : ℕ) : Type 0 where
  pub width_is : width_in bytes ≡ m.width
  pub few : count ≤ word_limit m
  pub count_is : count ≡ count_in bytes

places_behind : (m : Measures) (bytes : List ℕ) (count : ℕ) → HasCounts m bytes count → value_places m bytes ≡ word_places bytes m.width count 42 ++ cell_places m bytes None (cell_count_in bytes) (cells_at bytes)
places_behind m bytes count h =
    let cells = cell_places m bytes None (cell_count_in bytes) (cells_at bytes) in
    ap (λ (b : Bool). unless b 5 ++ (unless (nat_le (count_in bytes) (word_limit m)) 38 ++ (word_places bytes (width_in bytes) (count_in bytes) 42 ++ cells))) (eq-eqb (width_in bytes) m.width h.width_is)
    ∙ ap (λ (b : Bool). unless b 38 ++ (word_places bytes (width_in bytes) (count_in bytes) 42 ++ cells)) (le-leb (count_in bytes) (word_limit m) (omega (arith, h.few, h.count_is)))
    ∙ ap (λ (w : ℕ). word_places bytes w (count_in bytes) 42 ++ cells) h.width_is
    ∙ ap (λ (n : ℕ). word_places bytes m.width n 42 ++ cells) (sym h.count_is)

pub word_first : (m : Measures) (bytes : List ℕ) (count at : ℕ) → HasCounts m bytes count → slice_get (word_places bytes m.width count 42) 0 ≡ Some at → slice_get (value_places m bytes) 0 ≡ Some at
word_first m bytes count at h e =
    ap (λ (l : List ℕ). slice_get l 0) (places_behind m bytes count h)
    ∙ first_front (word_places bytes m.width count 42) (cell_places m bytes None (cell_count_in bytes) (cells_at bytes)) at (sym e)

-- no word is too wide, and these are the number and the place of the data cells
pub record HasCells (m : Measures) (bytes : List ℕ) (count cells from : ℕ) : Type 0 where
  pub counts : HasCounts m bytes count
  pub words : word_places bytes m.width count 42 ≡ []
  pub cells_are : cells ≡ cell_count_in bytes
  pub from_is : from ≡ cells_at bytes

only_cells : (m : Measures) (bytes : List ℕ) (count cells from : ℕ) → HasCells m bytes count cells from → value_places m bytes ≡ cell_places m bytes None cells from
only_cells m bytes count cells from h =
    places_behind m bytes count h.counts ∙ ap (λ (l : List ℕ). l ++ cell_places m bytes None (cell_count_in bytes) (cells_at bytes)) h.words
    ∙ ap (λ (n : ℕ). cell_places m bytes None n (cells_at bytes)) (sym h.cells_are)
    ∙ ap (λ (n : ℕ). cell_places m bytes None cells n) (sym h.from_is)

pub cell_first : (m : Measures) (bytes : List ℕ) (count cells from at : ℕ) → HasCells m bytes count cells from → slice_get (cell_places m bytes None cells from) 0 ≡ Some at → slice_get (value_places m bytes) 0 ≡ Some at
cell_first m bytes count cells from at h e = ap (λ (l : List ℕ). slice_get l 0) (only_cells m bytes count cells from h) ∙ e

-- what was read is the image
pub read_is : (m : Measures) (digest bytes found words : List ℕ) (inits : List Init) (count cells from : ℕ) → IsBytes bytes → IsWhole bytes → found ≡ digest_in bytes → found ≡ digest → HasCells m bytes count cells from → words ≡ words_from bytes (word_bytes m.width) count 42 → cell_places m bytes None cells from ≡ [] → inits ≡ inits_from bytes cells from → IsImageOf m digest bytes (record { digest = found; width = m.width; words = words; inits = inits })
read_is m digest bytes found words inits count cells from b w f d h ws c is =
    let image = image_is m digest bytes b w (sym f ∙ d) (only_cells m bytes count cells from h ∙ c) in
    let read : Picture = record { digest = found; width = m.width; words = words; inits = inits } in
    let words_are : words ≡ words_from bytes (word_bytes (width_in bytes)) (count_in bytes) 42 =
    ws ∙ ap (λ (n : ℕ). words_from bytes (word_bytes m.width) n 42) h.counts.count_is
    ∙ ap (λ (n : ℕ). words_from bytes (word_bytes n) (count_in bytes) 42) (sym h.counts.width_is) in
    let inits_are : inits ≡ inits_from bytes (cell_count_in bytes) (cells_at bytes) =
    is ∙ ap (λ (n : ℕ). inits_from bytes n from) h.cells_are ∙ ap (λ (n : ℕ). inits_from bytes (cell_count_in bytes) n) h.from_is in
    subst (IsImageOf m digest bytes) (sym (picture_is read (image_in bytes) f (sym h.counts.width_is) words_are inits_are)) image

-- a power that fits is not cut
pub limit_is : (bits : ℕ) → bits ≤ 16 → (1 * 2 ^ bits) % 18446744073709551616 ≡ 2 ^ bits
limit_is bits h = omega (arith, pow_mono {i = bits} {j = 16} h)
