-- Where no two shapes have a word in common, the values of one mask differ.
use Rattle.std.proofs.Common.{ℕ, ◌≡◌, ◌≤◌, ◌<◌, ◌+◌, refl, sym, ◌∙◌, ap, subst, arith, Bool, true, false, List, [], ◌∷◌, get_or, Some, ⊎_elim}
use Rattle.std.specs.Prelude.{slice_get, if◌then◌else◌, nat_eq, bit_and}
use Rattle.std.specs.List.{AllByRecursion, IsDistinct}
use Rattle.std.proofs.lemmas.Bool.{cases_lt, cases_order, ne_eqb, eq-eqb, both_ways}
use Rattle.std.proofs.lemmas.Map.Keys.{IsDistinct-cons, IsDistinct-IsPermutation, apart_from_distinct}
use Rattle.std.proofs.lemmas.Option.{slice_get-get_or}
use Rattle.nml_shape.specs.declared.shape.Shape.{Shape}
use Rattle.nml_shape.specs.First.{HaveWord, HasNoPair}
use Rattle.isg_lists.specs.Numbers.{numbers_from, numbers_where}
use Rattle.isg_lists.specs.Masks.{has_mask, value_at, value_or, AreOfMask, AreWithin, RiseStrictly}
use Rattle.isg_lists.proofs.Search.{listed_has}

module _ {A : Type 0} (p : A → Bool) where
  -- numbers from m on differ from one before m
  differ : (n m : ℕ) (xs : List A) → n < m → AllByRecursion (λ y. nat_eq n y ≡ false) (numbers_from p m xs)
  differ n m [] low = tt
  differ n m (x ∷ xs) low = by (p x) refl (differ n (m + 1) xs (omega (arith, low)))
    where
      by : (b : Bool) → p x ≡ b → AllByRecursion (λ y. nat_eq n y ≡ false) (numbers_from p (m + 1) xs) → AllByRecursion (λ y. nat_eq n y ≡ false) (numbers_from p m (x ∷ xs))
      by true is rest = subst (λ b. AllByRecursion (λ y. nat_eq n y ≡ false) (if b then m ∷ numbers_from p (m + 1) xs else numbers_from p (m + 1) xs)) (sym is) (ne_eqb n m (λ e. omega (arith, e, low)), rest)
      by false is rest = subst (λ b. AllByRecursion (λ y. nat_eq n y ≡ false) (if b then m ∷ numbers_from p (m + 1) xs else numbers_from p (m + 1) xs)) (sym is) rest

  distinct : (m : ℕ) (xs : List A) → IsDistinct nat_eq (numbers_from p m xs)
  unfolding IsDistinct
  distinct m [] = tt
  distinct m (x ∷ xs) = by (p x) refl (distinct (m + 1) xs)
    where
      by : (b : Bool) → p x ≡ b → IsDistinct nat_eq (numbers_from p (m + 1) xs) → IsDistinct nat_eq (numbers_from p m (x ∷ xs))
      by true is rest = subst (λ b. IsDistinct nat_eq (if b then m ∷ numbers_from p (m + 1) xs else numbers_from p (m + 1) xs)) (sym is) (IsDistinct-cons nat_eq m (numbers_from p (m + 1) xs) (differ m (m + 1) xs (omega arith)) rest)
      by false is rest = subst (λ b. IsDistinct nat_eq (if b then m ∷ numbers_from p (m + 1) xs else numbers_from p (m + 1) xs)) (sym is) rest

turned_eq : (x y : ℕ) → nat_eq x y ≡ nat_eq y x
turned_eq x y = ⊎_elim (λ (e : x ≡ y). eq-eqb x y e ∙ sym (eq-eqb y x (sym e))) (λ r. ⊎_elim
    (λ (lt : x < y). ne_eqb x y (λ e. omega (arith, e, lt)) ∙ sym (ne_eqb y x (λ e. omega (arith, e, lt))))
    (λ (gt : y < x). ne_eqb x y (λ e. omega (arith, e, gt)) ∙ sym (ne_eqb y x (λ e. omega (arith, e, gt)))) r) (cases_order x y)

-- two shapes of one mask and one value have a word in common
pub rises : (shapes : List Shape) (mask : ℕ) (ns : List ℕ) → AreOfMask shapes mask ns → HasNoPair HaveWord shapes → AreWithin shapes → RiseStrictly shapes ns
rises shapes mask ns is none within i j low fits = ⊎_elim
    (λ (lt : value_at shapes (get_or ns i 0) < value_at shapes (get_or ns j 0)). lt)
    (λ (ge : value_at shapes (get_or ns j 0) ≤ value_at shapes (get_or ns i 0)). absurd (same (omega (arith, ge, is.rise i j 0 (omega (arith, low)) fits))))
    (cases_lt (value_at shapes (get_or ns i 0)) (value_at shapes (get_or ns j 0)))
  where
    pair : (k l : ℕ) (a b : Shape) → k < l → slice_get shapes k ≡ Some a → slice_get shapes l ≡ Some b → a.mask ≡ b.mask → a.value ≡ b.value → ⊥
    pair k l a b up at to m v = none k l (record { rises = up; a = a; b = b; first = at; second = to; have = (a.value, within k a at, ap (bit_and a.value) (sym m) ∙ within k a at ∙ v) })

    same : value_at shapes (get_or ns i 0) ≡ value_at shapes (get_or ns j 0) → ⊥
    same e =
        let x = listed_has shapes mask ns (get_or ns i 0) is (i, slice_get-get_or ns i 0 (omega (arith, low, fits))) in
        let y = listed_has shapes mask ns (get_or ns j 0) is (j, slice_get-get_or ns j 0 fits) in
        let m : x.0.mask ≡ y.0.mask = sym x.2 ∙ y.2 in
        let v : x.0.value ≡ y.0.value = sym (ap value_or x.1) ∙ e ∙ ap value_or y.1 in
        let d = IsDistinct-IsPermutation nat_eq turned_eq (numbers_where (has_mask mask) shapes) ns is.same (distinct (has_mask mask) 0 shapes) in
        let apart = apart_from_distinct nat_eq ns i j 0 d low fits in
        ⊎_elim (λ (s : get_or ns i 0 ≡ get_or ns j 0). both_ways (nat_eq (get_or ns i 0) (get_or ns j 0)) apart (eq-eqb _ _ s))
        (λ r. ⊎_elim (λ (lt : get_or ns i 0 < get_or ns j 0). pair _ _ x.0 y.0 lt x.1 y.1 m v) (λ (gt : get_or ns j 0 < get_or ns i 0). pair _ _ y.0 x.0 gt y.1 x.1 (sym m) (sym v)) r)
        (cases_order (get_or ns i 0) (get_or ns j 0))
