-- What is left of sorted numbers once those that follow an equal one are gone: the numbers in rising order, each once.
use Rattle.std.proofs.Common.{◌≡◌, refl, sym, subst, ◌∙◌, inl, inr, ⊎_elim, ℕ, zero, suc, ◌<◌, ℤ, ◌<ℤ◌, List, [], ◌∷◌, length, get_or, arith, Less}
use Rattle.std.specs.Ordering.{int_cmp, int_eq}
use Rattle.std.specs.List.{AllByRecursion, Contains, dedup}
use Rattle.std.specs.List.Retain.{IsFiltered, DiffersFromLast}
use Rattle.std.specs.List.Sorted.{IsPermutation, IsSorted, IsStrictlySortedBy}
use Rattle.std.proofs.lemmas.Bool.Decides.{Decides-int_eq}
use Rattle.std.proofs.lemmas.Cmp.{int_cmp_total, int_eq_equiv, int_ranked}
use Rattle.std.proofs.lemmas.List.Filters.{dedup_is}
use Rattle.std.proofs.lemmas.List.Kept.{Contains-dedup, Contains-from_dedup, IsStrictlySortedBy-dedup}
use Rattle.std.proofs.lemmas.List.Sorted.{Contains-permutation, IsPermutation-sym}
use Rattle.c_tree.specs.Lowered.{in_order}
use Rattle.c_order.proofs.Members.{Among, Rises, only, rises_in_order, in_order_has, has_in_order, same_in_order}

-- ---- a member, by its place and without

pub among_from : (xs : List ℤ) (z : ℤ) → Contains xs z → Among xs z
among_from xs z h = at xs h.0 h.1 h.2
  where
    at : (xs : List ℤ) (k : ℕ) → k < length xs → get_or xs k z ≡ z → Among xs z
    at [] k h e = absurd (omega (arith, h))
    at (x ∷ xs) zero h e = inl e
    at (x ∷ xs) (suc k) h e = inr (at xs k (omega (arith, h)) e)

pub contains_from : (xs : List ℤ) (z : ℤ) → Among xs z → Contains xs z
contains_from [] z h = absurd h
contains_from (x ∷ xs) z h = ⊎_elim (λ e. (0, omega arith, e)) (λ i. let c = contains_from xs z i in (suc c.0, omega (arith, c.1), c.2)) h

-- ---- what rises

each_above : (x : ℤ) (xs : List ℤ) → AllByRecursion (λ y. int_cmp x y ≡ Less) xs → (z : ℤ) → Among xs z → x <ℤ z
each_above x [] h z i = absurd i
each_above x (y ∷ ys) h z i = ⊎_elim (λ e. subst (λ q. x <ℤ q) e (int_ranked x y Less (sym h.0))) (λ j. each_above x ys h.1 z j) i

rises_from : (xs : List ℤ) → IsStrictlySortedBy int_cmp xs → Rises xs
unfolding IsStrictlySortedBy
rises_from [] h = tt
rises_from (x ∷ xs) h = (each_above x xs h.0, rises_from xs h.1)

-- ---- sorted numbers, and those of them that are left

pub sorted_in_order : (xs sorted ys : List ℤ) → IsPermutation xs sorted → IsSorted int_cmp sorted → IsFiltered (DiffersFromLast int_eq) [] sorted ys → ys ≡ in_order xs
sorted_in_order xs sorted ys moved up left =
    dedup_is int_eq sorted ys left
    ∙ only (dedup int_eq sorted) (in_order xs) (rises_from (dedup int_eq sorted) (IsStrictlySortedBy-dedup int_cmp_total (λ x y. refl) sorted up)) (rises_in_order xs)
    (λ z h. has_in_order xs z (among_from xs z (Contains-permutation sorted xs z (IsPermutation-sym xs sorted moved) (Contains-from_dedup int_eq sorted z (contains_from (dedup int_eq sorted) z h)))))
    (λ z h. among_from (dedup int_eq sorted) z (Contains-dedup int_eq_equiv (λ x y. (Decides-int_eq x y).0) sorted z (Contains-permutation xs sorted z moved (contains_from xs z (in_order_has xs z h)))))

-- numbers with the same members
pub same_contained : (xs ys : List ℤ) → ((z : ℤ) → Contains xs z → Contains ys z) → ((z : ℤ) → Contains ys z → Contains xs z) → in_order xs ≡ in_order ys
same_contained xs ys f g =
    same_in_order xs ys
    (λ z h. among_from ys z (f z (contains_from xs z h)))
    (λ z h. among_from xs z (g z (contains_from ys z h)))

-- and in another order
pub moved_in_order : (xs ys : List ℤ) → IsPermutation xs ys → in_order xs ≡ in_order ys
moved_in_order xs ys moved =
    same_contained xs ys (λ z h. Contains-permutation xs ys z moved h) (λ z h. Contains-permutation ys xs z (IsPermutation-sym xs ys moved) h)
