-- The words and the data cells of a file, one by one from the first.
use Rattle.std.proofs.Common.{◌≡◌, ℕ, zero, suc, ◌+◌, ◌-◌, ◌*◌, ◌%◌, ◌^◌, ◌<◌, ◌≤◌, List, [], ◌∷◌, ◌++◌, Option, Some, None, refl, sym, ap, ◌∙◌, append_assoc, arith}
use Rattle.std.specs.Prelude.{slice_get}
use Rattle.std.proofs.Math.Nat.{suc-mul}
use Rattle.std.proofs.Math.Pow.{pow_mono}
use Rattle.std.proofs.lemmas.Bool.{lt-ltb, le-ltb}
use Rattle.image_file.specs.File.{Init, word_bytes}
use Rattle.image_file.specs.Valid.{Measures}
use Rattle.image_file.specs.Refused.{number_at, word_places, init_at, field_places, cell_places}
use Rattle.image_file.specs.Parts.{words_from, inits_from}

-- one of so many parts of one size
pub next_part : (at count size end : ℕ) → 0 < count → at + count * size ≡ end → at + size + (count - 1) * size ≡ end
next_part at zero size end h e = absurd (omega arith)
next_part at (suc more) size end h e =
    let one : suc more - 1 ≡ more = omega arith in
    let times = suc-mul more size in
    rw one (omega (arith, times, e))

pub part_within : (at count size end len : ℕ) → 0 < count → at + count * size ≡ end → end ≤ len → at + size ≤ len
part_within at count size end len h e l = omega (arith, next_part at count size end h e)

-- a word that is wide enough to be the first fault
pub word_wide : (bytes : List ℕ) (width count at : ℕ) → 0 < count → 2 ^ width ≤ number_at at (word_bytes width) bytes → slice_get (word_places bytes width count at) 0 ≡ Some at
word_wide bytes width zero at h w = absurd (omega arith)
word_wide bytes width (suc more) at h w = rw (le-ltb (number_at at (word_bytes width) bytes) (2 ^ width) w) refl

pub word_fits : (bytes : List ℕ) (width count at : ℕ) → 0 < count → number_at at (word_bytes width) bytes < 2 ^ width → word_places bytes width count at ≡ word_places bytes width (count - 1) (at + word_bytes width)
word_fits bytes width zero at h w = absurd (omega arith)
word_fits bytes width (suc more) at h w =
    let one : suc more - 1 ≡ more = omega arith in
    rw (one, lt-ltb (number_at at (word_bytes width) bytes) (2 ^ width) w) refl

-- the words so far, and one more
pub word_more : (bytes ws : List ℕ) (size count at word : ℕ) → 0 < count → word ≡ number_at at size bytes → (ws ++ word ∷ []) ++ words_from bytes size (count - 1) (at + size) ≡ ws ++ words_from bytes size count at
word_more bytes ws size zero at word h e = absurd (omega arith)
word_more bytes ws size (suc more) at word h e =
    let one : suc more - 1 ≡ more = omega arith in
    rw one (append_assoc ws (word ∷ []) (words_from bytes size more (at + size)) ∙ ap (λ (w : ℕ). ws ++ w ∷ words_from bytes size more (at + size)) e)

-- the first of places in front
pub first_front : (xs ys : List ℕ) (x : ℕ) → Some x ≡ slice_get xs 0 → slice_get (xs ++ ys) 0 ≡ Some x
first_front [] ys x e = absurd (cc e)
first_front (z ∷ xs) ys x e = sym e

pub none_first : (xs : List ℕ) → None ≡ slice_get xs 0 → xs ≡ []
none_first [] e = refl
none_first (x ∷ xs) e = absurd (cc e)

pub field_wrong : (m : Measures) (bytes : List ℕ) (before : Option Init) (count at : ℕ) (i : Init) (wrong : ℕ) → 0 < count → i ≡ init_at bytes at → Some wrong ≡ slice_get (field_places m before i at) 0 → slice_get (cell_places m bytes before count at) 0 ≡ Some wrong
field_wrong m bytes before zero at i wrong h e w = absurd (omega arith)
field_wrong m bytes before (suc more) at i wrong h e w =
    first_front (field_places m before (init_at bytes at) at) (cell_places m bytes (Some (init_at bytes at)) more (at + 14)) wrong (w ∙ ap (λ (j : Init). slice_get (field_places m before j at) 0) e)

pub fields_right : (m : Measures) (bytes : List ℕ) (before : Option Init) (count at : ℕ) (i : Init) → 0 < count → i ≡ init_at bytes at → None ≡ slice_get (field_places m before i at) 0 → cell_places m bytes before count at ≡ cell_places m bytes (Some i) (count - 1) (at + 14)
fields_right m bytes before zero at i h e w = absurd (omega arith)
fields_right m bytes before (suc more) at i h e w =
    let one : suc more - 1 ≡ more = omega arith in
    let none = none_first (field_places m before i at) w in
    rw one (
    ap (λ (j : Init). field_places m before j at ++ cell_places m bytes (Some j) more (at + 14)) (sym e)
    ∙ ap (λ (l : List ℕ). l ++ cell_places m bytes (Some i) more (at + 14)) none)

-- the data cells so far, and one more
pub init_more : (bytes : List ℕ) (is : List Init) (count at : ℕ) (i : Init) → 0 < count → i ≡ init_at bytes at → (is ++ i ∷ []) ++ inits_from bytes (count - 1) (at + 14) ≡ is ++ inits_from bytes count at
init_more bytes is zero at i h e = absurd (omega arith)
init_more bytes is (suc more) at i h e =
    let one : suc more - 1 ≡ more = omega arith in
    rw one (append_assoc is (i ∷ []) (inits_from bytes more (at + 14)) ∙ ap (λ (j : Init). is ++ j ∷ inits_from bytes more (at + 14)) e)

-- a power that fits is not cut
pub limit_is : (width : ℕ) → width ≤ 64 → (1 * 2 ^ width) % 340282366920938463463374607431768211456 ≡ 2 ^ width
limit_is width h = omega (arith, pow_mono {i = width} {j = 64} h)
