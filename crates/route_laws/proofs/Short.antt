-- How long a route can be.
use Rattle.std.proofs.Common.{◌≡◌, ℕ, ◌<◌, refl, sym, subst, ◌∙◌, arith, true≢false, inl, inr}
use Rattle.std.specs.Prelude.{Bool, true, false, not, eqb, ◌⊎◌, ◌||◌, IsTrue, List, [], ◌∷◌, length, Option}
use Rattle.std.specs.List.{IsDistinct, AllByRecursion, list_any}
use Rattle.std.proofs.lemmas.Bool.{eqb-true, eq-eqb}
use Rattle.std.proofs.lemmas.Map.Steps.{length-le_from_distinct_below}
use Rattle.isg_places.specs.declared.place.Place.{Place}
use Rattle.pat_core.specs.Isa.{Isa}
use Rattle.pat_core.specs.Route.{Route, goes, is_route}
use Rattle.route_laws.specs.Search.{is_seen, passed}
use Rattle.route_laws.proofs.Going.{step_parts, passed_long}

other_way : (n m : ℕ) (b : Bool) → eqb n m ≡ b → eqb m n ≡ false → b ≡ false
other_way n m false is p = refl
other_way n m true is p = absurd (true≢false (sym (eq-eqb m n (sym (eqb-true n m is))) ∙ p))

neither : (x y : Bool) → IsTrue (not (x || y)) → (x ≡ false) × IsTrue (not y)
neither true y p = absurd (true≢false (sym p))
neither false true p = absurd (true≢false (sym p))
neither false false p = (refl, refl)

none_same : (n : ℕ) (seen : List ℕ) → IsTrue (not (is_seen n seen)) → AllByRecursion (λ y. eqb n y ≡ false) seen
none_same n [] p = tt
none_same n (m ∷ seen) p =
    let parts = neither (eqb m n) (is_seen n seen) p in (other_way n m (eqb n m) refl parts.0, none_same n seen parts.1)

one_of : (x y : Bool) → (x || y) ≡ true → (x ≡ true) ⊎ (y ≡ true)
one_of true y p = inl refl
one_of false y p = inr p

-- numbers below a bound
abbrev AreBelow : ℕ → List ℕ → Type 0
AreBelow m ns = (q : ℕ) → list_any (eqb q) ns ≡ true → q < m

below_too : (m n : ℕ) (ns : List ℕ) → n < m → AreBelow m ns → AreBelow m (n ∷ ns)
below_too m n ns low h q p = elim (one_of (eqb q n) (list_any (eqb q) ns) p) [
  | inl is ↦ subst (λ x. x < m) (sym (eqb-true q n is)) low
  | inr more ↦ h q more
]

distinct : (isa : Isa) (bits : ℕ) (avoid : Option Place) (seen : List ℕ) (from : Place) (r : Route) (to : Place)
    → IsTrue (goes isa bits avoid seen from r to) → IsDistinct eqb seen → IsDistinct eqb (passed seen r)
unfolding IsDistinct
distinct isa bits avoid seen from [] to p d = d
distinct isa bits avoid seen from ((k, place) ∷ steps) to p d =
    let parts = step_parts isa bits avoid seen from k place steps to p in
    distinct isa bits avoid (place.storage ∷ seen) place steps to parts.2 (none_same place.storage seen parts.1, d)

below : (m : ℕ) (seen : List ℕ) (r : Route) → AreBelow m seen → AllByRecursion (λ (k, place). place.storage < m) r → AreBelow m (passed seen r)
below m seen [] h all = h
below m seen ((k, place) ∷ steps) h all = below m (place.storage ∷ seen) steps (below_too m place.storage seen all.0 h) all.1

one : (n : ℕ) → IsDistinct eqb (n ∷ [])
unfolding IsDistinct
one n = (tt, tt)

none_below : (m : ℕ) → AreBelow m []
none_below m q p = absurd (true≢false (sym p))

-- a route whose places are of storages below a bound has fewer steps
pub routes_short : (isa : Isa) (bits : ℕ) (avoid : Option Place) (m : ℕ) (from : Place) (r : Route) (to : Place)
    → from.storage < m → AllByRecursion (λ (k, place). place.storage < m) r → IsTrue (is_route isa bits avoid from r to) → length r < m
routes_short isa bits avoid m from r to low all p =
    let short = length-le_from_distinct_below (passed (from.storage ∷ []) r) m (distinct isa bits avoid (from.storage ∷ []) from r to p (one from.storage))
    (below m (from.storage ∷ []) r (below_too m from.storage [] low (none_below m)) all) in
    let long = passed_long (from.storage ∷ []) r in
    omega (arith, short, long)
