-- The search for the shape of a word.
use Rattle.std.proofs.Common.{ℕ, zero, suc, ◌≡◌, ◌≤◌, ◌<◌, ◌+◌, refl, sym, ◌∙◌, ap, subst, arith, List, [], ◌∷◌, ◌++◌, length, drop, get_or, Option, Some, map, ⊎_elim}
use Rattle.std.specs.Prelude.{slice_get, MatchOption, bit_and, option_map}
use Rattle.std.proofs.lemmas.Bool.{eqb-true, eq-eqb, cases_lt}
use Rattle.std.proofs.lemmas.List.{at_drop_all, get_or-map, length-map, append-nil, append_assoc}
use Rattle.std.proofs.lemmas.List.Sorted.{Contains-permutation, IsPermutation-sym}
use Rattle.std.proofs.lemmas.Option.{slice_get_within, get_or_from_slice_get, slice_get-map, same_Some}
use Rattle.std.specs.Global.{Vec}
use Rattle.std.specs.Map.{keys_of}
use Rattle.nml_shape.proofs.Order.{got, has}
use Rattle.nml_shape.specs.declared.shape.Shape.{Shape}
use Rattle.isg_lists.specs.declared.masks.OfMask.{OfMask}
use Rattle.isg_lists.specs.declared.masks.Masks.{Masks}
use Rattle.isg_lists.specs.Numbers.{numbers_where}
use Rattle.isg_lists.specs.Masks.{masks, has_mask, value_at, value_or, AreOfMask, IsListOf, AreMasks, HasNone, HasNoneOf, HasAt, IsRising, IsMissing, numbers_or}
use Rattle.isg_lists.proofs.Places.{In, drop_at_get, got_of_map, has_number, number_has}
use Rattle.isg_lists.proofs.Grouping.{mask_in}

-- the values of numbers that rise by value rise
pub values_rise : (shapes : List Shape) (l : OfMask) → IsListOf shapes l → IsRising l.values.items
values_rise shapes l is = subst IsRising (sym is.values_are) by
  where
    by : IsRising (map (value_at shapes) l.numbers.items)
    by i j le lt = let n = length-map l.numbers.items (value_at shapes) in let m : j < length l.numbers.items = omega (arith, lt, n) in
        rw (get_or-map (value_at shapes) l.numbers.items i 0 0 (omega (arith, le, m)), get_or-map (value_at shapes) l.numbers.items j 0 0 m) (is.numbers_are.rise i j 0 le m)

-- a value that would stand between two neighbours is missing
pub missing_from : (xs : List ℕ) (x i : ℕ) → (i ≤ length xs) × ((k : ℕ) → k < i → get_or xs k 0 < x) × ((k : ℕ) → i ≤ k → k < length xs → x < get_or xs k 0) → IsMissing xs x
missing_from xs x i h k at =
    let low = slice_get_within xs k x at in
    let is = get_or_from_slice_get xs k x 0 at in
    ⊎_elim (λ (lt : k < i). let a = h.1 k lt in omega (arith, a, is)) (λ (ge : i ≤ k). let a = h.2 k ge low in omega (arith, a, is)) (cases_lt k i)

-- the shape of a number of the list has the mask
pub listed_has : (shapes : List Shape) (mask : ℕ) (ns : List ℕ) (n : ℕ) → AreOfMask shapes mask ns → In ns n → (s : Shape) × (slice_get shapes n ≡ Some s) × (mask ≡ s.mask)
listed_has shapes mask ns n is c =
    let d = Contains-permutation ns (numbers_where (has_mask mask) shapes) n (IsPermutation-sym _ _ is.same) (has ns c.0 n c.1) in
    let g = got (numbers_where (has_mask mask) shapes) n d in
    let h = number_has (has_mask mask) shapes 0 g.0 n g.1 in
    let e : h.0 ≡ n = let a = h.2 in omega (arith, a) in
    (h.1, subst (λ k. slice_get shapes k ≡ Some h.1) e h.3, eqb-true mask h.1.mask h.4)

-- and each shape with the mask is in the list
pub listed_every : (shapes : List Shape) (mask : ℕ) (ns : List ℕ) (n : ℕ) (s : Shape) → AreOfMask shapes mask ns → slice_get shapes n ≡ Some s → mask ≡ s.mask → In ns n
listed_every shapes mask ns n s is at e =
    let i = has_number (has_mask mask) shapes 0 n n s (omega arith) at (eq-eqb mask s.mask e) in
    got ns n (Contains-permutation _ ns n is.same (has _ i.0 n i.1))

pub none_in_list : (shapes : List Shape) (l : OfMask) (word : ℕ) → IsListOf shapes l → IsMissing l.values.items (bit_and word l.mask) → HasNoneOf l.mask shapes word
none_in_list shapes l word is missing n s at mask fits =
    let i = listed_every shapes l.mask l.numbers.items n s is.numbers_are at (sym mask) in
    let v : value_at shapes n ≡ bit_and word l.mask = ap value_or at ∙ sym fits ∙ ap (bit_and word) mask in
    missing i.0 (ap (λ xs. slice_get xs i.0) is.values_are ∙ slice_get-map (value_at shapes) l.numbers.items i.0 ∙ ap (option_map (value_at shapes)) i.1 ∙ ap Some v)

pub found_in_list : (shapes : List Shape) (l : OfMask) (word i : ℕ) (found : Option ℕ) → IsListOf shapes l → slice_get l.values.items i ≡ Some (bit_and word l.mask) → found ≡ slice_get l.numbers.items i
    → MatchOption found (HasNoneOf l.mask shapes word) (λ n. HasAt shapes word n)
found_in_list shapes l word i found is at same =
    let g = got_of_map (value_at shapes) l.numbers.items i _ (sym (ap (λ xs. slice_get xs i) is.values_are) ∙ at) in
    let h = listed_has shapes l.mask l.numbers.items g.0 is.numbers_are (i, g.1) in
    subst (λ o. MatchOption o (HasNoneOf l.mask shapes word) (λ n. HasAt shapes word n)) (sym (same ∙ g.1))
    (h.0, h.1, ap (bit_and word) (sym h.2) ∙ sym g.2 ∙ ap value_or h.1)

-- ---- the lists one by one

-- no list before k has the word
abbrev pub Passed : Masks → ℕ → ℕ → Type 0
Passed m word k = (shapes : List Shape) → AreMasks shapes m → (j : ℕ) (l : OfMask) → j < k → slice_get m.lists.items j ≡ Some l → HasNoneOf l.mask shapes word

-- the shape that was found in a list has the word
pub found_at : (m : Masks) (word k n : ℕ) (l : OfMask) → slice_get m.lists.items k ≡ Some l → ((shapes : List Shape) → IsListOf shapes l → HasAt shapes word n) → (shapes : List Shape) → AreMasks shapes m → HasAt shapes word n
found_at m word k n l at found shapes are = found shapes (are.each k l at)

pub passed_more : (m : Masks) (word k : ℕ) (l : OfMask) → slice_get m.lists.items k ≡ Some l → ((shapes : List Shape) → IsListOf shapes l → HasNoneOf l.mask shapes word) → Passed m word k → Passed m word (k + 1)
passed_more m word k l at none p shapes are j x low to = ⊎_elim
    (λ (lt : j < k). p shapes are j x lt to)
    (λ (ge : k ≤ j). let s : j ≡ k = omega (arith, ge, low) in
    let t : slice_get m.lists.items k ≡ Some x = subst (λ i. slice_get m.lists.items i ≡ Some x) s to in
    let e : l ≡ x = same_Some _ _ (sym at ∙ t) in
    subst (λ y. HasNoneOf y.mask shapes word) e (none shapes (are.each k l at)))
    (cases_lt j k)

pub passed_all : (m : Masks) (word k : ℕ) → length m.lists.items ≤ k → Passed m word k → (shapes : List Shape) → AreMasks shapes m → HasNone shapes word
passed_all m word k end p shapes are n s at fits =
    let c = mask_in shapes n s at in
    let g = got_of_map (λ (l : OfMask). l.mask) m.lists.items c.0 s.mask (ap (λ xs. slice_get xs c.0) are.kept ∙ c.1) in
    let low = slice_get_within m.lists.items c.0 g.0 g.1 in
    p shapes are c.0 g.0 (omega (arith, low, end)) g.1 n s at (sym g.2) fits

-- ---- the lists as they are made

-- the lists of the first k entries are made
pub record Made (shapes : List Shape) (entries : List (ℕ × Vec ℕ)) (k : ℕ) (ms : List ℕ) (ls : List OfMask) : Type 0 where
  pub masks_are : keys_of entries ≡ ms ++ keys_of (drop k entries)
  pub kept : map (λ l. l.mask) ls ≡ ms
  pub each : (j : ℕ) (l : OfMask) → slice_get ls j ≡ Some l → IsListOf shapes l

push_each : (P : OfMask → Type 0) (ls : List OfMask) (x : OfMask) → ((j : ℕ) (l : OfMask) → slice_get ls j ≡ Some l → P l) → P x → (j : ℕ) (l : OfMask) → slice_get (ls ++ x ∷ []) j ≡ Some l → P l
push_each P [] x h px zero l at = subst P (same_Some _ _ at) px
push_each P [] x h px (suc j) l at = absurd cc
push_each P (y ∷ ls) x h px zero l at = h 0 l at
push_each P (y ∷ ls) x h px (suc j) l at = push_each P ls x (λ i. h (suc i)) px j l at

map_push : (ls : List OfMask) (x : OfMask) → map (λ l. l.mask) (ls ++ x ∷ []) ≡ map (λ l. l.mask) ls ++ x.mask ∷ []
map_push [] x = refl
map_push (y ∷ ls) x = ap (λ ms. y.mask ∷ ms) (map_push ls x)

pub made_more : (shapes : List Shape) (entries : List (ℕ × Vec ℕ)) (k mask : ℕ) (v : Vec ℕ) (ms : List ℕ) (ls : List OfMask) (l : OfMask) → slice_get entries k ≡ Some (mask, v) → l.mask ≡ mask → IsListOf shapes l → Made shapes entries k ms ls → Made shapes entries (k + 1) (ms ++ mask ∷ []) (ls ++ l ∷ [])
made_more shapes entries k mask v ms ls l at same is m = record {
  masks_are = m.masks_are ∙ ap (λ es. ms ++ keys_of es) (drop_at_get entries k (mask, v) at) ∙ sym (append_assoc ms (mask ∷ []) (keys_of (drop (k + 1) entries)));
  kept = map_push ls l ∙ (λ i. m.kept i ++ same i ∷ []);
  each = push_each (IsListOf shapes) ls l m.each is;
}

pub made_all : (shapes : List Shape) (entries : List (ℕ × Vec ℕ)) (k : ℕ) (m : Masks) → length entries ≤ k → keys_of entries ≡ masks shapes → Made shapes entries k m.masks.items m.lists.items → AreMasks shapes m
made_all shapes entries k m end keys_is made = record {
  masks_are = are;
  of_mask_are = λ j mask at. let g = got_of_map (λ (l : OfMask). l.mask) m.lists.items j mask (ap (λ xs. slice_get xs j) (made.kept ∙ are) ∙ at) in
      subst (λ o. AreOfMask shapes mask (numbers_or o)) (sym g.1) (subst (λ y. AreOfMask shapes y g.0.numbers.items) g.2 (made.each j g.0 g.1).numbers_are);
  kept = made.kept ∙ are;
  each = made.each;
}
  where
    are : m.masks.items ≡ masks shapes
    are = sym (append-nil m.masks.items) ∙ sym (at_drop_all (λ es. m.masks.items ++ keys_of es) entries k end) ∙ sym made.masks_are ∙ keys_is
