-- The file of a valid image has none of the faults.
use Rattle.std.proofs.Common.{◌≡◌, ℕ, zero, suc, ◌+◌, ◌*◌, ◌^◌, ◌<◌, ◌≤◌, Bool, true, List, [], ◌∷◌, ◌++◌, length, Option, Some, None, refl, sym, ap, subst, ◌∙◌, append_assoc, arith, ⊎_elim}
use Rattle.std.specs.Prelude.{flat_map, codes, nat_lt, nat_le, ◌==◌, not, ◌&&◌, IsTrue}
use Rattle.std.specs.List.{AllByRecursion}
use Rattle.std.proofs.Math.Nat.{suc-mul}
use Rattle.std.proofs.lemmas.Bool.{ltb-true, eqb-true, lt-ltb, le-ltb, le-leb, eq-eqb, ne_eqb, and_parts, and_from, or_cases, or_left, or_right}
use Rattle.std.proofs.lemmas.List.{append-nil, length-append, take_at}
use Rattle.image_file.specs.File.{Picture, Init, IsInit, HasFile, big_endian, word_bytes, init_bytes, file}
use Rattle.image_file.specs.Valid.{Measures, IsValid, word_limit, is_storage, is_cell, is_raw, is_init, is_before, rise}
use Rattle.image_file.specs.Refused.{IsWhole, number_at, width_in, digest_in, count_in, cell_count_at, cell_count_in, cells_at, called_for, unless, word_places, init_at, is_storage_behind, is_cell_behind, field_places, cell_places, value_places}
use Rattle.image_file.specs.Parts.{words_from, inits_from, image_in}
use Rattle.image_file.proofs.Bytes.{length-big_endian, word_fits}
use Rattle.image_file.proofs.OneFile.{init_is, picture_is}
use Rattle.image_file.proofs.Numbers.{number_written}
use Rattle.image_file.proofs.Reading.{IsRight}

words_written : (size : ℕ) (front ws rest : List ℕ) (at : ℕ) → length front ≡ at → AllByRecursion (λ w. w < 256 ^ size) ws → words_from (front ++ (flat_map (big_endian size) ws ++ rest)) size (length ws) at ≡ ws
words_written size front [] rest at l a = refl
words_written size front (w ∷ ws) rest at l a =
    let words = flat_map (big_endian size) ws in
    let word = big_endian size w in
    let n = length ws in
    let e : front ++ ((word ++ words) ++ rest) ≡ front ++ (word ++ (words ++ rest)) = ap (λ (t : List ℕ). front ++ t) (append_assoc word words rest) in
    let f : front ++ (word ++ (words ++ rest)) ≡ (front ++ word) ++ (words ++ rest) = sym (append_assoc front word (words ++ rest)) in
    let h = number_written at size w front (words ++ rest) l a.0 in
    let t = words_written size (front ++ word) ws rest (at + size) (omega (arith, length-append front word, length-big_endian size w, l)) a.1 in
    ap (λ (b : List ℕ). number_at at size b ∷ words_from b size n (at + size)) e
    ∙ ap (λ (x : ℕ). x ∷ words_from (front ++ (word ++ (words ++ rest))) size n (at + size)) h
    ∙ ap (λ (b : List ℕ). w ∷ words_from b size n (at + size)) f
    ∙ ap (λ (xs : List ℕ). w ∷ xs) t

init_written : (front rest : List ℕ) (i : Init) (at : ℕ) → length front ≡ at → IsInit i → init_at (front ++ (init_bytes i ++ rest)) at ≡ i
init_written front rest i at l a =
    let storage = big_endian 2 i.storage in
    let cell = big_endian 4 i.cell in
    let value = big_endian 8 i.value in
    let e : front ++ (init_bytes i ++ rest) ≡ front ++ (storage ++ (cell ++ (value ++ rest))) =
    ap (λ (t : List ℕ). front ++ t) (append_assoc storage (cell ++ value) rest ∙ ap (λ (t : List ℕ). storage ++ t) (append_assoc cell value rest)) in
    let f : front ++ (storage ++ (cell ++ (value ++ rest))) ≡ (front ++ storage) ++ (cell ++ (value ++ rest)) = sym (append_assoc front storage (cell ++ (value ++ rest))) in
    let g : (front ++ storage) ++ (cell ++ (value ++ rest)) ≡ ((front ++ storage) ++ cell) ++ (value ++ rest) = sym (append_assoc (front ++ storage) cell (value ++ rest)) in
    let two : length (front ++ storage) ≡ at + 2 = omega (arith, length-append front storage, length-big_endian 2 i.storage, l) in
    let six : length ((front ++ storage) ++ cell) ≡ at + 6 = omega (arith, length-append (front ++ storage) cell, length-big_endian 4 i.cell, two) in
    init_is (init_at (front ++ (init_bytes i ++ rest)) at) i
    (ap (number_at at 2) e ∙ number_written at 2 i.storage front (cell ++ (value ++ rest)) l a.0)
    (ap (number_at (at + 2) 4) (e ∙ f) ∙ number_written (at + 2) 4 i.cell (front ++ storage) (value ++ rest) two a.1)
    (ap (number_at (at + 6) 8) (e ∙ f ∙ g) ∙ number_written (at + 6) 8 i.value ((front ++ storage) ++ cell) rest six a.2)

length-init_bytes : (i : Init) → length (init_bytes i) ≡ 14
length-init_bytes i = refl

inits_written : (front : List ℕ) (is : List Init) (rest : List ℕ) (at : ℕ) → length front ≡ at → AllByRecursion IsInit is → inits_from (front ++ (flat_map init_bytes is ++ rest)) (length is) at ≡ is
inits_written front [] rest at l a = refl
inits_written front (i ∷ is) rest at l a =
    let inits = flat_map init_bytes is in
    let init = init_bytes i in
    let n = length is in
    let e : front ++ ((init ++ inits) ++ rest) ≡ front ++ (init ++ (inits ++ rest)) = ap (λ (t : List ℕ). front ++ t) (append_assoc init inits rest) in
    let f : front ++ (init ++ (inits ++ rest)) ≡ (front ++ init) ++ (inits ++ rest) = sym (append_assoc front init (inits ++ rest)) in
    let h = init_written front (inits ++ rest) i at l a.0 in
    let t = inits_written (front ++ init) is rest (at + 14) (omega (arith, length-append front init, length-init_bytes i, l)) a.1 in
    ap (λ (b : List ℕ). init_at b at ∷ inits_from b n (at + 14)) e
    ∙ ap (λ (x : Init). x ∷ inits_from (front ++ (init ++ (inits ++ rest))) n (at + 14)) h
    ∙ ap (λ (b : List ℕ). i ∷ inits_from b n (at + 14)) f
    ∙ ap (λ (xs : List Init). i ∷ xs) t

length-words : (size : ℕ) (ws : List ℕ) → length (flat_map (big_endian size) ws) ≡ length ws * size
length-words size [] = omega arith
length-words size (w ∷ ws) =
    omega (arith, length-append (big_endian size w) (flat_map (big_endian size) ws), length-big_endian size w, length-words size ws, suc-mul (length ws) size)

length-inits : (is : List Init) → length (flat_map init_bytes is) ≡ length is * 14
length-inits [] = refl
length-inits (i ∷ is) = omega (arith, length-append (init_bytes i) (flat_map init_bytes is), length-init_bytes i, length-inits is)

-- what stands in the file of an image
pub record Written (i : Picture) (bytes : List ℕ) : Type 0 where
  pub width : width_in bytes ≡ i.width
  pub digest : digest_in bytes ≡ i.digest
  pub count : count_in bytes ≡ length i.words
  pub words : words_from bytes (word_bytes i.width) (length i.words) 42 ≡ i.words
  pub cell_count : number_at (42 + length i.words * word_bytes i.width) 4 bytes ≡ length i.inits
  pub inits : inits_from bytes (length i.inits) (42 + length i.words * word_bytes i.width + 4) ≡ i.inits
  pub length_is : length bytes ≡ 42 + length i.words * word_bytes i.width + 4 + length i.inits * 14

words_below : (width : ℕ) (ws : List ℕ) → AllByRecursion (λ w. w < 2 ^ width) ws → AllByRecursion (λ w. w < 256 ^ word_bytes width) ws
words_below width [] a = tt
words_below width (w ∷ ws) a = (omega (arith, a.0, word_fits width), words_below width ws a.1)

pub written : (i : Picture) → HasFile i → Written i (file i)
written i h =
    let size = word_bytes i.width in
    let n = length i.words in
    let k = length i.inits in
    let words = flat_map (big_endian size) i.words in
    let inits = flat_map init_bytes i.inits in
    let head = codes "NMLI" ++ (1 ∷ i.width ∷ i.digest) in
    let behind = head ++ big_endian 4 n in
    let end = behind ++ words in
    let cells = end ++ big_endian 4 k in
    let first : file i ≡ head ++ (big_endian 4 n ++ (words ++ (big_endian 4 k ++ inits))) = refl in
    let second : file i ≡ behind ++ (words ++ (big_endian 4 k ++ inits)) = first ∙ sym (append_assoc head (big_endian 4 n) (words ++ (big_endian 4 k ++ inits))) in
    let third : file i ≡ end ++ (big_endian 4 k ++ inits) = second ∙ sym (append_assoc behind words (big_endian 4 k ++ inits)) in
    let fourth : file i ≡ cells ++ inits = third ∙ sym (append_assoc end (big_endian 4 k) inits) in
    let fifth : file i ≡ cells ++ (inits ++ []) = fourth ∙ ap (λ (t : List ℕ). cells ++ t) (sym (append-nil inits)) in
    let head_length : length head ≡ 38 = omega (arith, h.digest_is) in
    let behind_length : length behind ≡ 42 = omega (arith, length-append head (big_endian 4 n), length-big_endian 4 n, head_length) in
    let end_length : length end ≡ 42 + n * size = omega (arith, length-append behind words, length-words size i.words, behind_length) in
    let cells_length : length cells ≡ 42 + n * size + 4 = omega (arith, length-append end (big_endian 4 k), length-big_endian 4 k, end_length) in
    let wide : 0 + i.width ≡ i.width = omega arith in
    record {
      width = wide;
      digest = take_at i.digest (big_endian 4 n ++ (words ++ (big_endian 4 k ++ inits))) 32 h.digest_is;
      count = ap (number_at 38 4) first ∙ number_written 38 4 n head (words ++ (big_endian 4 k ++ inits)) head_length (omega (arith, h.words_count));
      words = ap (λ (b : List ℕ). words_from b size n 42) second ∙ words_written size behind i.words (big_endian 4 k ++ inits) 42 behind_length (words_below i.width i.words h.words_fit);
      cell_count = ap (number_at (42 + n * size) 4) third ∙ number_written (42 + n * size) 4 k end inits end_length h.inits_count;
      inits = ap (λ (b : List ℕ). inits_from b k (42 + n * size + 4)) fifth ∙ inits_written cells i.inits [] (42 + n * size + 4) cells_length h.inits_fit;
      length_is = ap length fourth ∙ omega (arith, length-append cells inits, length-inits i.inits, cells_length);
    }

-- where its parts are
place_is : (i : Picture) (bytes : List ℕ) → Written i bytes → cell_count_at bytes ≡ 42 + length i.words * word_bytes i.width
place_is i bytes w =
    ap (λ (n : ℕ). 42 + n * word_bytes (width_in bytes)) w.count ∙ ap (λ (n : ℕ). 42 + length i.words * word_bytes n) w.width

cells_are : (i : Picture) (bytes : List ℕ) → Written i bytes → cell_count_in bytes ≡ length i.inits
cells_are i bytes w = ap (λ (n : ℕ). number_at n 4 bytes) (place_is i bytes w) ∙ w.cell_count

words_are : (i : Picture) (bytes : List ℕ) → Written i bytes → words_from bytes (word_bytes (width_in bytes)) (count_in bytes) 42 ≡ i.words
words_are i bytes w =
    ap (λ (n : ℕ). words_from bytes (word_bytes n) (count_in bytes) 42) w.width ∙ ap (λ (n : ℕ). words_from bytes (word_bytes i.width) n 42) w.count ∙ w.words

inits_are : (i : Picture) (bytes : List ℕ) → Written i bytes → inits_from bytes (cell_count_in bytes) (cells_at bytes) ≡ i.inits
inits_are i bytes w =
    ap (λ (n : ℕ). inits_from bytes n (cells_at bytes)) (cells_are i bytes w) ∙ ap (λ (n : ℕ). inits_from bytes (length i.inits) (n + 4)) (place_is i bytes w) ∙ w.inits

-- it is the image that stands in its file
pub image_back : (i : Picture) (bytes : List ℕ) → Written i bytes → image_in bytes ≡ i
image_back i bytes w = picture_is (image_in bytes) i w.digest w.width (words_are i bytes w) (inits_are i bytes w)

pub whole_length : (i : Picture) (bytes : List ℕ) → Written i bytes → length bytes ≡ called_for bytes
whole_length i bytes w =
    let place = place_is i bytes w in
    let cells = cells_are i bytes w in
    let head : 42 ≤ length bytes = omega (arith, w.length_is) in
    let within : cells_at bytes ≤ length bytes = omega (arith, w.length_is, place) in
    let all : length bytes ≡ cells_at bytes + cell_count_in bytes * 14 = omega (arith, w.length_is, place, cells) in
    rw (le-ltb (length bytes) 42 head, le-ltb (length bytes) (cells_at bytes) within) all

none_wide : (bytes : List ℕ) (width count at : ℕ) → AllByRecursion (λ w. w < 2 ^ width) (words_from bytes (word_bytes width) count at) → word_places bytes width count at ≡ []
none_wide bytes width zero at a = refl
none_wide bytes width (suc more) at a =
    rw (lt-ltb (number_at at (word_bytes width) bytes) (2 ^ width) a.0) (none_wide bytes width more (at + word_bytes width) a.1)

no_fields : (m : Measures) (before : Option Init) (i : Init) (at : ℕ) → IsRight m before i → field_places m before i at ≡ []
no_fields m before i at r =
    let s = and_parts (is_storage m i.storage) (is_cell m i.storage i.cell && is_raw m i.storage i.value) r.init in
    let c = and_parts (is_cell m i.storage i.cell) (is_raw m i.storage i.value) s.1 in
    ap (λ (b : Bool). unless b at ++ (unless (is_cell m i.storage i.cell && is_cell_behind before i) (at + 2) ++ unless (is_raw m i.storage i.value) (at + 6))) (and_from (is_storage m i.storage) (is_storage_behind before i) s.0 r.storage)
    ∙ ap (λ (b : Bool). unless b (at + 2) ++ unless (is_raw m i.storage i.value) (at + 6)) (and_from (is_cell m i.storage i.cell) (is_cell_behind before i) c.0 r.cell)
    ∙ ap (λ (b : Bool). unless b (at + 6)) c.1

-- an order of two data cells is one of each field
right_behind : (m : Measures) (a b : Init) → is_init m b ≡ true → is_before a b ≡ true → IsRight m (Some a) b
right_behind m a b i h = ⊎_elim lower same (or_cases (nat_lt a.storage b.storage) ((a.storage == b.storage) && nat_lt a.cell b.cell) h)
  where
    lower : nat_lt a.storage b.storage ≡ true → IsRight m (Some a) b
    lower l =
        let less = ltb-true a.storage b.storage l in
        let other : not (a.storage == b.storage) ≡ true = rw (ne_eqb a.storage b.storage (λ e. omega (arith, less, e))) refl in
        record { init = i; storage = le-leb a.storage b.storage (omega (arith, less)); cell = or_left (not (a.storage == b.storage)) (nat_lt a.cell b.cell) other }

    same : ((a.storage == b.storage) && nat_lt a.cell b.cell) ≡ true → IsRight m (Some a) b
    same l =
        let p = and_parts (a.storage == b.storage) (nat_lt a.cell b.cell) l in
        record {
          init = i;
          storage = le-leb a.storage b.storage (omega (arith, eqb-true a.storage b.storage p.0));
          cell = or_right (not (a.storage == b.storage)) (nat_lt a.cell b.cell) p.1;
        }

none_behind : (m : Measures) (bytes : List ℕ) (before : Init) (count at : ℕ) → AllByRecursion (λ c. IsTrue (is_init m c)) (inits_from bytes count at) → rise (before ∷ inits_from bytes count at) ≡ true → cell_places m bytes (Some before) count at ≡ []
none_behind m bytes before zero at a r = refl
none_behind m bytes before (suc more) at a r =
    let i = init_at bytes at in
    let p = and_parts (is_before before i) (rise (i ∷ inits_from bytes more (at + 14))) r in
    ap (λ (l : List ℕ). l ++ cell_places m bytes (Some i) more (at + 14)) (no_fields m (Some before) i at (right_behind m before i a.0 p.0))
    ∙ none_behind m bytes i more (at + 14) a.1 p.1

none_wrong : (m : Measures) (bytes : List ℕ) (count at : ℕ) → AllByRecursion (λ c. IsTrue (is_init m c)) (inits_from bytes count at) → rise (inits_from bytes count at) ≡ true → cell_places m bytes None count at ≡ []
none_wrong m bytes zero at a r = refl
none_wrong m bytes (suc more) at a r =
    let i = init_at bytes at in
    ap (λ (l : List ℕ). l ++ cell_places m bytes (Some i) more (at + 14)) (no_fields m None i at (record { init = a.0; storage = refl; cell = refl }))
    ∙ none_behind m bytes i more (at + 14) a.1 r

pub none_at : (m : Measures) (i : Picture) (bytes : List ℕ) → IsValid m i → Written i bytes → value_places m bytes ≡ []
none_at m i bytes v w =
    let width_is : width_in bytes ≡ m.width = w.width ∙ v.width_is in
    let few : count_in bytes ≤ word_limit m = omega (arith, w.count, v.count) in
    let words = words_are i bytes w in
    let inits = inits_are i bytes w in
    let fit : AllByRecursion (λ x. x < 2 ^ width_in bytes) (words_from bytes (word_bytes (width_in bytes)) (count_in bytes) 42) =
    subst (λ (n : ℕ). AllByRecursion (λ x. x < 2 ^ n) (words_from bytes (word_bytes (width_in bytes)) (count_in bytes) 42)) (sym width_is) (subst (AllByRecursion (λ x. x < 2 ^ m.width)) (sym words) v.fit) in
    let none = none_wide bytes (width_in bytes) (count_in bytes) 42 fit in
    let cells = none_wrong m bytes (cell_count_in bytes) (cells_at bytes) (subst (AllByRecursion (λ c. IsTrue (is_init m c))) (sym inits) v.cells) (ap rise inits ∙ v.order) in
    ap (λ (b : Bool). unless b 5 ++ (unless (nat_le (count_in bytes) (word_limit m)) 38 ++ (word_places bytes (width_in bytes) (count_in bytes) 42 ++ cell_places m bytes None (cell_count_in bytes) (cells_at bytes)))) (eq-eqb (width_in bytes) m.width width_is)
    ∙ ap (λ (b : Bool). unless b 38 ++ (word_places bytes (width_in bytes) (count_in bytes) 42 ++ cell_places m bytes None (cell_count_in bytes) (cells_at bytes))) (le-leb (count_in bytes) (word_limit m) few)
    ∙ ap (λ (l : List ℕ). l ++ cell_places m bytes None (cell_count_in bytes) (cells_at bytes)) none
    ∙ cells

-- the file of a valid image is whole
pub whole : (i : Picture) → HasFile i → IsWhole (file i)
whole i h = record { magic = refl; version = λ found e. cc e; length_is = whole_length i (file i) (written i h) }
