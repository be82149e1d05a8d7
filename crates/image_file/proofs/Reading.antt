-- Bytes that are whole, have the digest and no wrong field are the file of the image that stands in them.
use Rattle.std.proofs.Common.{◌≡◌, ℕ, zero, suc, ◌+◌, ◌*◌, ◌%◌, ◌^◌, ◌<◌, ◌≤◌, Bool, true, false, List, [], ◌∷◌, ◌++◌, length, drop, get_or, Option, Some, None, refl, sym, ap, subst, ◌∙◌, append_assoc, arith, ⊎_elim}
use Rattle.std.specs.Prelude.{flat_map, codes, nat_lt, nat_le, ◌==◌, not, ◌&&◌, ◌||◌, IsTrue}
use Rattle.std.specs.List.{AllByRecursion}
use Rattle.std.proofs.Math.Nat.{suc-mul}
use Rattle.std.proofs.lemmas.Bool.{ltb-true, leb-true, eqb-true, lt-ltb, le-ltb, eq-eqb, cases_lt, and_parts, and_from, or_left, or_right}
use Rattle.std.proofs.lemmas.List.{append-nil, drop_more, drop_all}
use Rattle.std.proofs.lemmas.Option.{slice_get-get_or}
use Rattle.image_file.specs.File.{Init, big_endian, word_bytes, init_bytes, file}
use Rattle.image_file.specs.Valid.{Measures, IsImageOf, word_limit, is_storage, is_cell, is_raw, is_init, is_before, rise}
use Rattle.image_file.specs.Refused.{IsWhole, number_at, width_in, digest_in, count_in, cell_count_at, cell_count_in, cells_at, called_for, unless, word_places, init_at, is_storage_behind, is_cell_behind, field_places, cell_places, value_places}
use Rattle.image_file.specs.Parts.{words_from, inits_from, image_in}
use Rattle.image_file.proofs.Numbers.{IsBytes, number_front, number_at_below, part_front}

-- how far the parts of a whole file reach
pub record Reaches (bytes : List ℕ) : Type 0 where
  pub head : 42 ≤ length bytes
  pub cells : cells_at bytes ≤ length bytes
  pub all : cells_at bytes + cell_count_in bytes * 14 ≡ length bytes

pub reaches : (bytes : List ℕ) → length bytes ≡ called_for bytes → Reaches bytes
reaches bytes e = ⊎_elim short (λ h. ⊎_elim (cut h) (whole h) (cases_lt (length bytes) (cells_at bytes))) (cases_lt (length bytes) 42)
  where
    short : length bytes < 42 → Reaches bytes
    short h =
        let f : length bytes ≡ 42 = rw (lt-ltb (length bytes) 42 h) at e in
        absurd (omega (arith, f))

    cut : 42 ≤ length bytes → length bytes < cells_at bytes → Reaches bytes
    cut h l =
        let f : length bytes ≡ cells_at bytes = rw (le-ltb (length bytes) 42 h, lt-ltb (length bytes) (cells_at bytes) l) at e in
        absurd (omega (arith, f))

    whole : 42 ≤ length bytes → cells_at bytes ≤ length bytes → Reaches bytes
    whole h l =
        let f : length bytes ≡ cells_at bytes + cell_count_in bytes * 14 = rw (le-ltb (length bytes) 42 h, le-ltb (length bytes) (cells_at bytes) l) at e in
        record { head = h; cells = l; all = sym f }

pub length-words_from : (bytes : List ℕ) (size count at : ℕ) → length (words_from bytes size count at) ≡ count
length-words_from bytes size zero at = refl
length-words_from bytes size (suc more) at = omega (arith, length-words_from bytes size more (at + size))

pub length-inits_from : (bytes : List ℕ) (count at : ℕ) → length (inits_from bytes count at) ≡ count
length-inits_from bytes zero at = refl
length-inits_from bytes (suc more) at = omega (arith, length-inits_from bytes more (at + 14))

-- the words' bytes
words_front : (bytes : List ℕ) (size count at : ℕ) → IsBytes bytes → at + count * size ≤ length bytes → drop at bytes ≡ flat_map (big_endian size) (words_from bytes size count at) ++ drop (at + count * size) bytes
words_front bytes size zero at b h =
    let e : at ≡ at + 0 * size = omega arith in
    ap (λ (n : ℕ). drop n bytes) e
words_front bytes size (suc more) at b h =
    let times = suc-mul more size in
    let word = big_endian size (number_at at size bytes) in
    let words = flat_map (big_endian size) (words_from bytes size more (at + size)) in
    let e : at + size + more * size ≡ at + suc more * size = omega (arith, times) in
    number_front at size bytes b (omega (arith, times, h))
    ∙ ap (λ (t : List ℕ). word ++ t) (words_front bytes size more (at + size) b (omega (arith, times, h)))
    ∙ sym (append_assoc word words (drop (at + size + more * size) bytes))
    ∙ ap (λ (n : ℕ). (word ++ words) ++ drop n bytes) e

init_front : (bytes : List ℕ) (at : ℕ) → IsBytes bytes → at + 14 ≤ length bytes → drop at bytes ≡ init_bytes (init_at bytes at) ++ drop (at + 14) bytes
init_front bytes at b h =
    let storage = big_endian 2 (number_at at 2 bytes) in
    let cell = big_endian 4 (number_at (at + 2) 4 bytes) in
    let value = big_endian 8 (number_at (at + 6) 8 bytes) in
    let six : at + 2 + 4 ≡ at + 6 = omega arith in
    let fourteen : at + 6 + 8 ≡ at + 14 = omega arith in
    let rest = drop (at + 14) bytes in
    let p : drop at bytes ≡ storage ++ drop (at + 2) bytes = number_front at 2 bytes b (omega arith) in
    let q : drop (at + 2) bytes ≡ cell ++ drop (at + 6) bytes = number_front (at + 2) 4 bytes b (omega arith) ∙ ap (λ (n : ℕ). cell ++ drop n bytes) six in
    let r : drop (at + 6) bytes ≡ value ++ rest = number_front (at + 6) 8 bytes b (omega arith) ∙ ap (λ (n : ℕ). value ++ drop n bytes) fourteen in
    p ∙ ap (λ (t : List ℕ). storage ++ t) (q ∙ ap (λ (t : List ℕ). cell ++ t) r ∙ sym (append_assoc cell value rest))
    ∙ sym (append_assoc storage (cell ++ value) rest)

-- the data cells' bytes
inits_front : (bytes : List ℕ) (count at : ℕ) → IsBytes bytes → at + count * 14 ≤ length bytes → drop at bytes ≡ flat_map init_bytes (inits_from bytes count at) ++ drop (at + count * 14) bytes
inits_front bytes zero at b h =
    let e : at ≡ at + 0 * 14 = omega arith in
    ap (λ (n : ℕ). drop n bytes) e
inits_front bytes (suc more) at b h =
    let init = init_bytes (init_at bytes at) in
    let inits = flat_map init_bytes (inits_from bytes more (at + 14)) in
    let e : at + 14 + more * 14 ≡ at + suc more * 14 = omega arith in
    init_front bytes at b (omega arith)
    ∙ ap (λ (t : List ℕ). init ++ t) (inits_front bytes more (at + 14) b (omega arith))
    ∙ sym (append_assoc init inits (drop (at + 14 + more * 14) bytes))
    ∙ ap (λ (n : ℕ). (init ++ inits) ++ drop n bytes) e

-- whole bytes are the file of the image that stands in them
pub file_is : (bytes : List ℕ) → IsBytes bytes → IsWhole bytes → bytes ≡ file (image_in bytes)
file_is bytes b w =
    let r = reaches bytes w.length_is in
    let width = width_in bytes in
    let count = count_in bytes in
    let words = flat_map (big_endian (word_bytes width)) (words_from bytes (word_bytes width) count 42) in
    let cells = cell_count_in bytes in
    let inits = flat_map init_bytes (inits_from bytes cells (cells_at bytes)) in
    let front : bytes ≡ codes "NMLI" ++ drop 4 bytes = part_front 0 4 bytes ∙ ap (λ (t : List ℕ). t ++ drop 4 bytes) w.magic in
    let version : drop 4 bytes ≡ 1 ∷ drop 5 bytes =
    drop_more bytes 4 0 (omega (arith, r.head)) ∙ ap (λ (n : ℕ). n ∷ drop 5 bytes) (w.version (get_or bytes 4 0) (slice_get-get_or bytes 4 0 (omega (arith, r.head)))) in
    let small : width % 256 ≡ width = omega (arith, number_at_below 5 1 bytes b (omega (arith, r.head))) in
    let wide : drop 5 bytes ≡ width ∷ drop 6 bytes = number_front 5 1 bytes b (omega (arith, r.head)) ∙ ap (λ (n : ℕ). n ∷ drop 6 bytes) small in
    let digest : drop 6 bytes ≡ digest_in bytes ++ drop 38 bytes = part_front 6 32 bytes in
    let number : drop 38 bytes ≡ big_endian 4 count ++ drop 42 bytes = number_front 38 4 bytes b r.head in
    let all_words : drop 42 bytes ≡ words ++ drop (cell_count_at bytes) bytes = words_front bytes (word_bytes width) count 42 b (omega (arith, r.cells)) in
    let cell_number : drop (cell_count_at bytes) bytes ≡ big_endian 4 cells ++ drop (cells_at bytes) bytes = number_front (cell_count_at bytes) 4 bytes b r.cells in
    let all_inits : drop (cells_at bytes) bytes ≡ inits =
    inits_front bytes cells (cells_at bytes) b (omega (arith, r.all)) ∙ ap (λ (t : List ℕ). inits ++ t) (drop_all (cells_at bytes + cells * 14) bytes (omega (arith, r.all)))
    ∙ append-nil inits in
    front
    ∙ ap (λ (t : List ℕ). codes "NMLI" ++ t) (
    version ∙ ap (λ (t : List ℕ). 1 ∷ t) (
    wide ∙ ap (λ (t : List ℕ). width ∷ t) (
    digest ∙ ap (λ (t : List ℕ). digest_in bytes ++ t) (
    number
    ∙ ap (λ (n : ℕ). big_endian 4 n ++ drop 42 bytes) (sym (length-words_from bytes (word_bytes width) count 42))
    ∙ ap (λ (t : List ℕ). big_endian 4 (length (words_from bytes (word_bytes width) count 42)) ++ t) (
    all_words ∙ ap (λ (t : List ℕ). words ++ t) (
    cell_number
    ∙ ap (λ (n : ℕ). big_endian 4 n ++ drop (cells_at bytes) bytes) (sym (length-inits_from bytes cells (cells_at bytes)))
    ∙ ap (λ (t : List ℕ). big_endian 4 (length (inits_from bytes cells (cells_at bytes))) ++ t) all_inits))))))

-- two parts of which nothing comes
pub both_none : (xs ys : List ℕ) → xs ++ ys ≡ [] → (xs ≡ []) × (ys ≡ [])
both_none [] ys e = (refl, e)
both_none (x ∷ xs) ys e = absurd (cc e)

pub unless_none : (b : Bool) (at : ℕ) → unless b at ≡ [] → b ≡ true
unless_none true at e = refl
unless_none false at e = absurd (cc e)

words_fit : (bytes : List ℕ) (width count at : ℕ) → word_places bytes width count at ≡ [] → AllByRecursion (λ w. w < 2 ^ width) (words_from bytes (word_bytes width) count at)
words_fit bytes width zero at e = tt
words_fit bytes width (suc more) at e =
    let p = both_none (unless (nat_lt (number_at at (word_bytes width) bytes) (2 ^ width)) at) (word_places bytes width more (at + word_bytes width)) e in
    (ltb-true (number_at at (word_bytes width) bytes) (2 ^ width) (unless_none _ at p.0), words_fit bytes width more (at + word_bytes width) p.1)

-- what no wrong field says of a data cell
pub record IsRight (m : Measures) (before : Option Init) (i : Init) : Type 0 where
  pub init : is_init m i ≡ true
  pub storage : is_storage_behind before i ≡ true
  pub cell : is_cell_behind before i ≡ true

right_fields : (m : Measures) (before : Option Init) (i : Init) (at : ℕ) → field_places m before i at ≡ [] → IsRight m before i
right_fields m before i at e =
    let p = both_none (unless (is_storage m i.storage && is_storage_behind before i) at) _ e in
    let q = both_none (unless (is_cell m i.storage i.cell && is_cell_behind before i) (at + 2)) (unless (is_raw m i.storage i.value) (at + 6)) p.1 in
    let s = and_parts (is_storage m i.storage) (is_storage_behind before i) (unless_none _ at p.0) in
    let c = and_parts (is_cell m i.storage i.cell) (is_cell_behind before i) (unless_none _ (at + 2) q.0) in
    let v = unless_none (is_raw m i.storage i.value) (at + 6) q.1 in
    record { init = and_from (is_storage m i.storage) _ s.0 (and_from (is_cell m i.storage i.cell) (is_raw m i.storage i.value) c.0 v); storage = s.1; cell = c.1 }

cells_right : (m : Measures) (bytes : List ℕ) (before : Option Init) (count at : ℕ) → cell_places m bytes before count at ≡ [] → AllByRecursion (λ c. IsTrue (is_init m c)) (inits_from bytes count at)
cells_right m bytes before zero at e = tt
cells_right m bytes before (suc more) at e =
    let p = both_none (field_places m before (init_at bytes at) at) (cell_places m bytes (Some (init_at bytes at)) more (at + 14)) e in
    ((right_fields m before (init_at bytes at) at p.0).init, cells_right m bytes (Some (init_at bytes at)) more (at + 14) p.1)

before_is : (a b : Init) → nat_le a.storage b.storage ≡ true → (not (a.storage == b.storage) || nat_lt a.cell b.cell) ≡ true → is_before a b ≡ true
before_is a b s c = ⊎_elim lower same (cases_lt a.storage b.storage)
  where
    lower : a.storage < b.storage → is_before a b ≡ true
    lower h = or_left (nat_lt a.storage b.storage) _ (lt-ltb a.storage b.storage h)

    same : b.storage ≤ a.storage → is_before a b ≡ true
    same h =
        let e : (a.storage == b.storage) ≡ true = eq-eqb a.storage b.storage (omega (arith, h, leb-true a.storage b.storage s)) in
        let d : nat_lt a.cell b.cell ≡ true = rw e at c in
        or_right (nat_lt a.storage b.storage) _ (and_from (a.storage == b.storage) (nat_lt a.cell b.cell) e d)

cells_rise : (m : Measures) (bytes : List ℕ) (before : Init) (count at : ℕ) → cell_places m bytes (Some before) count at ≡ [] → rise (before ∷ inits_from bytes count at) ≡ true
cells_rise m bytes before zero at e = refl
cells_rise m bytes before (suc more) at e =
    let i = init_at bytes at in
    let p = both_none (field_places m (Some before) i at) (cell_places m bytes (Some i) more (at + 14)) e in
    let right = right_fields m (Some before) i at p.0 in
    and_from (is_before before i) (rise (i ∷ inits_from bytes more (at + 14))) (before_is before i right.storage right.cell) (cells_rise m bytes i more (at + 14) p.1)

all_rise : (m : Measures) (bytes : List ℕ) (count at : ℕ) → cell_places m bytes None count at ≡ [] → rise (inits_from bytes count at) ≡ true
all_rise m bytes zero at e = refl
all_rise m bytes (suc more) at e =
    cells_rise m bytes (init_at bytes at) more (at + 14) (both_none (field_places m None (init_at bytes at) at) (cell_places m bytes (Some (init_at bytes at)) more (at + 14)) e).1

-- the image that stands in bytes without a fault
pub image_is : (m : Measures) (digest bytes : List ℕ) → IsBytes bytes → IsWhole bytes → digest_in bytes ≡ digest → value_places m bytes ≡ [] → IsImageOf m digest bytes (image_in bytes)
image_is m digest bytes b w d e =
    let width = width_in bytes in
    let count = count_in bytes in
    let words = word_places bytes width count 42 in
    let cells = cell_places m bytes None (cell_count_in bytes) (cells_at bytes) in
    let p = both_none (unless (width == m.width) 5) _ e in
    let q = both_none (unless (nat_le count (word_limit m)) 38) (words ++ cells) p.1 in
    let r = both_none words cells q.1 in
    let width_is : width ≡ m.width = eqb-true width m.width (unless_none (width == m.width) 5 p.0) in
    record {
      valid = record {
        width_is = width_is;
        count = omega (arith, length-words_from bytes (word_bytes width) count 42, leb-true count (word_limit m) (unless_none (nat_le count (word_limit m)) 38 q.0));
        fit = subst (λ (n : ℕ). AllByRecursion (λ v. v < 2 ^ n) (words_from bytes (word_bytes width) count 42)) width_is (words_fit bytes width count 42 r.0);
        cells = cells_right m bytes None (cell_count_in bytes) (cells_at bytes) r.1;
        order = all_rise m bytes (cell_count_in bytes) (cells_at bytes) r.1;
      };
      digest_is = d;
      bytes_are = file_is bytes b w;
    }
