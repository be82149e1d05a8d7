-- Bits in which each field stands once are those of some numbers, wherever the fixed ones are right.
use Rattle.std.proofs.Common.{ℕ, zero, suc, ◌+◌, ◌/◌, ◌%◌, ◌^◌, ◌==◌, ◌≡◌, ◌≢◌, ◌<◌, ◌≤◌, refl, sym, ◌∙◌, ap, subst, Bool, true, false, ℤ, pos, List, [], ◌∷◌, ◌++◌, map, length, arith, ◌⊎◌, inl, inr}
use Rattle.std.specs.Prelude.{cond, unsigned_abs}
use Rattle.std.proofs.lemmas.Bool.{eqb-true, eq-eqb}
use Rattle.nk_base.specs.Number.{IsTy, width_of, low_bits, InRange}
use Rattle.nk_base.specs.declared.number.Ty.{Ty}
use Rattle.nml_tree.specs.Attribute.{bits_below, number_behind, number_of}
use Rattle.nml_outline.proofs.ExactBits.{ExactBit, Given, BitOf, run_below, forget}
use Rattle.nml_outline.proofs.MaskBits.{Fits}
use Rattle.nml_outline.proofs.WordBits.{number_below, below_is}
use Rattle.nml_outline.proofs.Ranges.{number_with}
use Rattle.nml_outline.proofs.Stands.{Each, each_both, Without, Once, TypeAt, type_within}

-- what is left of a field's bits stands once
pub record AtMost (n : ℕ) (xs : List ExactBit) : Type 0 where
  pub ty : Ty
  pub long : ℕ
  pub before : List ExactBit
  pub behind : List ExactBit
  pub are : xs ≡ before ++ (run_below n ty long ++ behind)
  pub none_before : Without n before
  pub none_behind : Without n behind

pub from_once : (n : ℕ) (ty : Ty) (xs : List ExactBit) → Once n ty xs → AtMost n xs
from_once n ty xs o = record { ty = ty; long = width_of ty; before = o.before; behind = o.behind; are = o.are; none_before = o.none_before; none_behind = o.none_behind }

pub from_without : (n : ℕ) (xs : List ExactBit) → Without n xs → AtMost n xs
from_without n xs h = record { ty = Ty.Bool; long = 0; before = []; behind = xs; are = refl; none_before = tt; none_behind = h }

-- in what stands behind a bit of this place
abbrev Fresh : (n k : ℕ) → ExactBit → Type 0
Fresh n k (Given b) = Unit {0}
Fresh n k (BitOf m ty j) = (n ≢ m) ⊎ (j < k)

fresh_without : (n k : ℕ) (xs : List ExactBit) → Without n xs → Each (Fresh n k) xs
fresh_without n k [] h = tt
fresh_without n k (Given b ∷ xs) h = (tt, fresh_without n k xs h.1)
fresh_without n k (BitOf m ty j ∷ xs) h = (inl h.0, fresh_without n k xs h.1)

fresh_run : (n k j : ℕ) (ty : Ty) → j ≤ k → Each (Fresh n k) (run_below n ty j)
fresh_run n k zero ty h = tt
fresh_run n k (suc j) ty h = (inr (omega (arith, h)), fresh_run n k j ty (omega (arith, h)))

fresh_from : (n k : ℕ) (ty u : Ty) (xs before behind : List ExactBit) (long : ℕ) → BitOf n ty k ∷ xs ≡ before ++ (run_below n u long ++ behind) → Without n before → Without n behind → Each (Fresh n k) xs
fresh_from n k ty u xs [] [] zero e h l = absurd cc
fresh_from n k ty u xs [] (Given b ∷ behind) zero e h l = absurd cc
fresh_from n k ty u xs [] (BitOf m v j ∷ behind) zero e h l = let s : n ≡ m = cc in absurd (l.0 s)
fresh_from n k ty u xs [] behind (suc long) e h l =
    let s : k ≡ long = cc in
    let r : xs ≡ run_below n u long ++ behind = cc in
    rw r (each_both (Fresh n k) (run_below n u long) behind (fresh_run n k long u (omega (arith, s))) (fresh_without n k behind l))
fresh_from n k ty u xs (Given b ∷ before) behind long e h l = absurd cc
fresh_from n k ty u xs (BitOf m v j ∷ before) behind long e h l = let s : n ≡ m = cc in absurd (h.0 s)

most_from : (n : ℕ) (u : Ty) (x : ExactBit) (xs before behind : List ExactBit) (long : ℕ) → x ∷ xs ≡ before ++ (run_below n u long ++ behind) → Without n before → Without n behind → AtMost n xs
most_from n u x xs [] [] zero e h l = absurd cc
most_from n u x xs [] (y ∷ behind) zero e h l = let s : xs ≡ behind = cc in from_without n xs (rw s l.1)
most_from n u x xs [] behind (suc long) e h l =
    let s : xs ≡ run_below n u long ++ behind = cc in record { ty = u; long = long; before = []; behind = behind; are = s; none_before = tt; none_behind = l }
most_from n u x xs (y ∷ before) behind long e h l =
    let s : xs ≡ before ++ (run_below n u long ++ behind) = cc in record { ty = u; long = long; before = before; behind = behind; are = s; none_before = h.1; none_behind = l }

-- a bit for each place of a field
abbrev pub mark : (ℕ → ℕ → Bool) → ExactBit → Bool
mark marks (Given b) = b
mark marks (BitOf n ty k) = marks n k

-- the bits with another one at this place of this field
abbrev with_mark : (n k : ℕ) → Bool → (ℕ → ℕ → Bool) → ℕ → ℕ → Bool
with_mark n k b marks m j = cond (m == n) (cond (j == k) b (marks m j)) (marks m j)

differ_nat : (m n : ℕ) (b : Bool) → (m == n) ≡ b → m ≢ n → (m == n) ≡ false
differ_nat m n true e h = absurd (h (eqb-true m n e))
differ_nat m n false e h = e

mark_first : (n k : ℕ) (b : Bool) (marks : ℕ → ℕ → Bool) → with_mark n k b marks n k ≡ b
mark_first n k b marks = rw (eq-eqb n n refl, eq-eqb k k refl) refl

mark_other : (n k m j : ℕ) (b : Bool) (marks : ℕ → ℕ → Bool) → (n ≢ m) ⊎ (j < k) → with_mark n k b marks m j ≡ marks m j
mark_other n k m j b marks (inl h) =
    let e = differ_nat m n (m == n) refl (λ s. h (sym s)) in ap (λ c. cond c (cond (j == k) b (marks m j)) (marks m j)) e
mark_other n k m j b marks (inr h) =
    let e = differ_nat j k (j == k) refl (λ s. omega (arith, s, h)) in
    ap (λ c. cond (m == n) (cond c b (marks m j)) (marks m j)) e ∙ one (m == n) (marks m j) where
      one : (c : Bool) (x : Bool) → cond c x x ≡ x
      one true x = refl
      one false x = refl

marks_same : (n k : ℕ) (b : Bool) (marks : ℕ → ℕ → Bool) (xs : List ExactBit) → Each (Fresh n k) xs → map (mark (with_mark n k b marks)) xs ≡ map (mark marks) xs
marks_same n k b marks [] h = refl
marks_same n k b marks (Given c ∷ xs) h = ap (λ ys. c ∷ ys) (marks_same n k b marks xs h.1)
marks_same n k b marks (BitOf m ty j ∷ xs) h =
    ap (λ c. c ∷ map (mark (with_mark n k b marks)) xs) (mark_other n k m j b marks h.0) ∙ ap (λ ys. marks m j ∷ ys) (marks_same n k b marks xs h.1)

pub assign : (xs : List ExactBit) (bs : List Bool) → Fits (map forget xs) bs → ((n : ℕ) → AtMost n xs) → (marks : (ℕ → ℕ → Bool)) × (map (mark marks) xs ≡ bs)
assign [] [] h one = ((λ n k. false), refl)
assign [] (b ∷ bs) h one = absurd h
assign (x ∷ xs) [] h one = absurd h
assign (Given c ∷ xs) (b ∷ bs) h one =
    let r = assign xs bs h.1 (λ n. most_from n (one n).ty (Given c) xs (one n).before (one n).behind (one n).long (one n).are (one n).none_before (one n).none_behind) in
    let same : c ≡ b = sym h.0 in
    (r.0, ap (λ d. d ∷ map (mark r.0) xs) same ∙ ap (λ ys. b ∷ ys) r.1)
assign (BitOf n ty k ∷ xs) (b ∷ bs) h one =
    let r = assign xs bs h (λ m. most_from m (one m).ty (BitOf n ty k) xs (one m).before (one m).behind (one m).long (one m).are (one m).none_before (one m).none_behind) in
    let fresh = fresh_from n k ty (one n).ty xs (one n).before (one n).behind (one n).long (one n).are (one n).none_before (one n).none_behind in
    (with_mark n k b r.0, ap (λ d. d ∷ map (mark (with_mark n k b r.0)) xs) (mark_first n k b r.0) ∙ ap (λ ys. b ∷ ys) (marks_same n k b r.0 xs fresh ∙ r.1))

-- the marks of a field below this place, the highest first
abbrev marks_below : (ℕ → ℕ → Bool) → ℕ → ℕ → List Bool
marks_below marks n zero = []
marks_below marks n (suc k) = marks n k ∷ marks_below marks n k

marks_long : (marks : ℕ → ℕ → Bool) (n k : ℕ) → length (marks_below marks n k) ≡ k
marks_long marks n zero = refl
marks_long marks n (suc k) = ap suc (marks_long marks n k)

below_long : (n v : ℕ) → length (bits_below n v) ≡ n
below_long zero v = refl
below_long (suc n) v = ap suc (below_long n v)

-- bits that are as many and write one number are the same
one_list : (bs cs : List Bool) (v w : ℕ) → length bs ≡ length cs → number_behind v bs ≡ number_behind w cs → (v ≡ w) × (bs ≡ cs)
one_list [] [] v w long h = (h, refl)
one_list [] (c ∷ cs) v w long h = absurd (omega (arith, long))
one_list (b ∷ bs) [] v w long h = absurd (omega (arith, long))
one_list (true ∷ bs) (true ∷ cs) v w long h = let r = one_list bs cs _ _ (omega (arith, long)) h in (omega (arith, r.0), ap (λ x. true ∷ x) r.1)
one_list (false ∷ bs) (false ∷ cs) v w long h = let r = one_list bs cs _ _ (omega (arith, long)) h in (omega (arith, r.0), ap (λ x. false ∷ x) r.1)
one_list (true ∷ bs) (false ∷ cs) v w long h = let r = one_list bs cs _ _ (omega (arith, long)) h in absurd (omega (arith, r.0))
one_list (false ∷ bs) (true ∷ cs) v w long h = let r = one_list bs cs _ _ (omega (arith, long)) h in absurd (omega (arith, r.0))

pub same_bits : (bs cs : List Bool) → length bs ≡ length cs → number_of bs ≡ number_of cs → bs ≡ cs
same_bits bs cs long h = (one_list bs cs 0 0 long h).1

bit_is : (marks : ℕ → ℕ → Bool) (n v w k : ℕ) → marks_below marks n w ≡ bits_below w v → k < w → (v / 2 ^ k % 2 == 1) ≡ marks n k
bit_is marks n v zero k h low = absurd (omega (arith, low))
bit_is marks n v (suc w) k h low =
    let first : marks n w ≡ (v / 2 ^ w % 2 == 1) = cc in
    let rest : marks_below marks n w ≡ bits_below w v = cc in
    elim (last k w low) [
      | inl e ↦ subst (λ j. (v / 2 ^ j % 2 == 1) ≡ marks n j) (sym e) (sym first)
      | inr l ↦ bit_is marks n v w k rest l
    ] where
      last : (k w : ℕ) → k < suc w → (k ≡ w) ⊎ (k < w)
      last zero zero h = inl refl
      last zero (suc w) h = inr (omega arith)
      last (suc k) zero h = absurd (omega (arith, h))
      last (suc k) (suc w) h = elim (last k w (omega (arith, h))) [ inl e ↦ inl (ap suc e) | inr l ↦ inr (omega (arith, l)) ]

-- each field has a number in range whose bits are these
abbrev pub AreMarked : (ℕ → ℕ → Bool) → List Ty → ℕ → (ℕ → ℤ) → Type 0
AreMarked marks ts m f = (n : ℕ) (ty : Ty) → TypeAt ts m n ty → InRange ty (f n) × ((k : ℕ) → k < width_of ty → (unsigned_abs (low_bits (width_of ty) (f n)) / 2 ^ k % 2 == 1) ≡ marks n k)

-- the number of one field
one_number : (marks : ℕ → ℕ → Bool) (n : ℕ) (ty : Ty) → IsTy ty → (z : ℤ) × InRange ty z × ((k : ℕ) → k < width_of ty → (unsigned_abs (low_bits (width_of ty) z) / 2 ^ k % 2 == 1) ≡ marks n k)
one_number marks n ty h =
    let bs = marks_below marks n (width_of ty) in
    let long : length bs ≡ width_of ty = marks_long marks n (width_of ty) in
    let small : number_of bs < 2 ^ width_of ty = subst (λ w. number_of bs < 2 ^ w) long (number_below bs) in
    let z = number_with ty (number_of bs) h small in
    let same : bs ≡ bits_below (width_of ty) (number_of bs) = same_bits bs (bits_below (width_of ty) (number_of bs)) (long ∙ sym (below_long (width_of ty) (number_of bs))) (sym (below_is (width_of ty) (number_of bs) small)) in
    (z.0, z.1, λ k low. ap (λ v. v / 2 ^ k % 2 == 1) z.2 ∙ bit_is marks n (number_of bs) (width_of ty) k same low)

-- the numbers with another one for this field
abbrev put : ℕ → ℤ → (ℕ → ℤ) → ℕ → ℤ
put m z f n = cond (n == m) z (f n)

-- the numbers of all
pub numbers : (marks : ℕ → ℕ → Bool) (ts : List Ty) (m : ℕ) → ((n : ℕ) (ty : Ty) → TypeAt ts m n ty → IsTy ty) → (f : (ℕ → ℤ)) × AreMarked marks ts m f
numbers marks [] m h = ((λ n. pos 0), λ n ty at. absurd at)
numbers marks (t ∷ ts) m h =
    let z = one_number marks m t (h m t (inl (refl, refl))) in
    let r = numbers marks ts (m + 1) (λ n ty at. h n ty (inr at)) in
    (put m z.0 r.0, λ n ty at. here marks t ts m z.0 r.0 (z.1, z.2) r.1 n ty at) where
      here : (marks : ℕ → ℕ → Bool) (t : Ty) (ts : List Ty) (m : ℕ) (z : ℤ) (f : ℕ → ℤ) → InRange t z × ((k : ℕ) → k < width_of t → (unsigned_abs (low_bits (width_of t) z) / 2 ^ k % 2 == 1) ≡ marks m k)
          → AreMarked marks ts (m + 1) f → AreMarked marks (t ∷ ts) m (put m z f)
      here marks t ts m z f h k n ty (inl at) =
          let e : (n == m) ≡ true = eq-eqb n m at.0 in
          let is : z ≡ put m z f n = sym (ap (λ c. cond c z (f n)) e) in
          subst (λ y. InRange ty y × ((k : ℕ) → k < width_of ty → (unsigned_abs (low_bits (width_of ty) y) / 2 ^ k % 2 == 1) ≡ marks n k)) is
          (subst (λ i. InRange ty z × ((k : ℕ) → k < width_of ty → (unsigned_abs (low_bits (width_of ty) z) / 2 ^ k % 2 == 1) ≡ marks i k)) (sym at.0)
          (subst (λ u. InRange u z × ((k : ℕ) → k < width_of u → (unsigned_abs (low_bits (width_of u) z) / 2 ^ k % 2 == 1) ≡ marks m k)) at.1 h))
      here marks t ts m z f h k n ty (inr at) =
          let low = type_within ts (m + 1) n ty at in
          let e : (n == m) ≡ false = differ_nat n m (n == m) refl (λ s. omega (arith, s, low.0)) in
          let is : f n ≡ put m z f n = sym (ap (λ c. cond c z (f n)) e) in
          subst (λ y. InRange ty y × ((k : ℕ) → k < width_of ty → (unsigned_abs (low_bits (width_of ty) y) / 2 ^ k % 2 == 1) ≡ marks n k)) is (k n ty at)
