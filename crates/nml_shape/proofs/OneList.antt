-- There is one list of all shapes, and so their number and the greatest numbers of their derivations are one.
use Rattle.std.proofs.Common.{ℕ, zero, suc, ◌≤◌, ◌≡◌, refl, sym, ap, ◌∙◌, subst, arith, List, [], ◌∷◌, length, Some, Contains, ◌⊎◌, inl, inr}
use Rattle.std.specs.Prelude.{slice_get}
use Rattle.nml_tree.specs.Table.{Table}
use Rattle.nml_tree.specs.Derivation.{Derivation}
use Rattle.nml_tree.specs.Valid.{IsRoot}
use Rattle.nml_tree.specs.Shapes.{Rises, AreShapes, AreCounts, IsGreatest, counted}
use Rattle.nml_shape.proofs.Order.{Before, not_itself, not_both, got, has, rises_behind, first_before}

-- each that the one list has the other has
abbrev AreIn : List (List ℕ) → List (List ℕ) → Type 0
AreIn xs ys = (x : List ℕ) → Contains xs x → Contains ys x

-- the first of the one is the first of the other, or behind it
first_or_behind : (x y : List ℕ) (ys : List (List ℕ)) → Rises (y ∷ ys) → Contains (y ∷ ys) x → (x ≡ y) ⊎ Before y x
first_or_behind x y ys h c = by (got (y ∷ ys) x c)
  where
    by : (k : ℕ) × (slice_get (y ∷ ys) k ≡ Some x) → (x ≡ y) ⊎ Before y x
    by (zero, at) = let e : y ≡ x = cc in inl (sym e)
    by (suc k, at) = inr (first_before ys y x k h at)

one_first : (x y : List ℕ) (xs ys : List (List ℕ)) → Rises (x ∷ xs) → Rises (y ∷ ys) → AreIn (x ∷ xs) (y ∷ ys) → AreIn (y ∷ ys) (x ∷ xs) → x ≡ y
one_first x y xs ys h k to from = elim (first_or_behind x y ys k (to x (0, omega arith, refl))) [
  | inl e ↦ e
  | inr b ↦ elim (first_or_behind y x xs h (from y (0, omega arith, refl))) [
    | inl e ↦ sym e
    | inr c ↦ absurd (not_both y x b c)
  ]
]

-- what stands behind the one stands behind the other
behind_in : (x : List ℕ) (xs ys : List (List ℕ)) → Rises (x ∷ xs) → AreIn (x ∷ xs) (x ∷ ys) → AreIn xs ys
behind_in x xs ys h to z c =
    let g = got xs z c in
    by (got (x ∷ ys) z (to z (suc c.0, omega (arith, c.1), c.2))) (first_before xs x z g.0 h g.1)
  where
    by : (k : ℕ) × (slice_get (x ∷ ys) k ≡ Some z) → Before x z → Contains ys z
    by (zero, at) b = let e : x ≡ z = cc in absurd (not_itself z (rw e at b))
    by (suc k, at) b = has ys k z at

one_list : (xs ys : List (List ℕ)) → Rises xs → Rises ys → AreIn xs ys → AreIn ys xs → xs ≡ ys
one_list [] [] h k to from = refl
one_list [] (y ∷ ys) h k to from = let c = from y (0, omega arith, refl) in absurd (omega (arith, c.1))
one_list (x ∷ xs) [] h k to from = let c = to x (0, omega arith, refl) in absurd (omega (arith, c.1))
one_list (x ∷ xs) (y ∷ ys) h k to from =
    let e = one_first x y xs ys h k to from in
    let u : Rises (x ∷ ys) = subst (λ z. Rises (z ∷ ys)) (sym e) k in
    let a : AreIn (x ∷ xs) (x ∷ ys) = subst (λ z. AreIn (x ∷ xs) (z ∷ ys)) (sym e) to in
    let b : AreIn (x ∷ ys) (x ∷ xs) = subst (λ z. AreIn (z ∷ ys) (x ∷ xs)) (sym e) from in
    let t = one_list xs ys (rises_behind x xs h) (rises_behind x ys u) (behind_in x xs ys h a) (behind_in x ys xs u b) in
    λ j. e j ∷ t j

shapes_in : (t : Table) (xs ys : List (List ℕ)) → AreShapes t xs → AreShapes t ys → AreIn xs ys
shapes_in t xs ys h k x c = let d = h.each x c in subst (Contains ys) d.2 (k.every d.0 d.1)

pub one_list_of_shapes : (t : Table) (xs ys : List (List ℕ)) → AreShapes t xs → AreShapes t ys → xs ≡ ys
one_list_of_shapes t xs ys h k = one_list xs ys h.rises k.rises (shapes_in t xs ys h k) (shapes_in t ys xs k h)

both_ways : (m n : ℕ) → m ≤ n → n ≤ m → m ≡ n
both_ways m n h k = omega (arith, h, k)

pub one_greatest : (t : Table) (of : Derivation → ℕ) (m n : ℕ) → IsGreatest (IsRoot t) of m → IsGreatest (IsRoot t) of n → m ≡ n
one_greatest t of m n h k =
    let a = h.reached in
    let b = k.reached in
    let x = k.bound a.0 a.1 in
    let y = h.bound b.0 b.1 in
    both_ways m n (subst (λ z. z ≤ n) a.2 x) (subst (λ z. z ≤ m) b.2 y)

-- the three numbers of a description
pub one_counts : (t : Table) (c n s b m r : ℕ) → AreCounts t c n s → AreCounts t b m r → (c ≡ b) × (n ≡ m) × (s ≡ r)
one_counts t c n s b m r h k =
    let same = one_list_of_shapes t h.shapes k.shapes h.all k.all in
    (h.count_is ∙ ap (λ xs. counted (length xs)) same ∙ sym k.count_is, one_greatest t _ n m h.nodes_are k.nodes_are, one_greatest t _ s r h.size_is k.size_is)
