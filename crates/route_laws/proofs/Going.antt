-- How routes go on.
use Rattle.std.proofs.Common.{◌≡◌, ℕ, suc, refl, sym, ap, arith, true≢false}
use Rattle.std.specs.Prelude.{Bool, true, false, not, ◌+◌, ◌==◌, ◌&&◌, ◌||◌, IsTrue, List, [], ◌∷◌, length, Option}
use Rattle.isg_places.specs.declared.place.Place.{Place}
use Rattle.pat_core.specs.Isa.{Isa}
use Rattle.pat_core.specs.Route.{Route, is_step, goes}
use Rattle.route_laws.specs.Search.{is_seen, SeesSame, passed, HasNoRest, walks}

seen_too : (a b : List ℕ) (m : ℕ) → SeesSame a b → SeesSame (m ∷ a) (m ∷ b)
seen_too a b m h n = ap (λ x. (m == n) || x) (h n)

-- a route looks at the storages that were seen by membership alone
pub goes_alike : (isa : Isa) (bits : ℕ) (avoid : Option Place) (a b : List ℕ) → SeesSame a b → (from : Place) (r : Route) (to : Place)
    → goes isa bits avoid a from r to ≡ goes isa bits avoid b from r to
goes_alike isa bits avoid a b h from [] to = refl
goes_alike isa bits avoid a b h from ((k, place) ∷ steps) to =
    rw (h place.storage, goes_alike isa bits avoid (place.storage ∷ a) (place.storage ∷ b) (seen_too a b place.storage h) place steps to) refl

and_true : (x y : Bool) → IsTrue (x && y) → IsTrue x × IsTrue y
and_true true true p = (refl, refl)
and_true true false p = absurd (true≢false (sym p))
and_true false y p = absurd (true≢false (sym p))

three_true : (x y z : Bool) → IsTrue (x && y && z) → IsTrue x × IsTrue y × IsTrue z
three_true true true true p = (refl, refl, refl)
three_true true true false p = absurd (true≢false (sym p))
three_true true false z p = absurd (true≢false (sym p))
three_true false y z p = absurd (true≢false (sym p))

-- what a route of one step more comes to
pub step_parts : (isa : Isa) (bits : ℕ) (avoid : Option Place) (seen : List ℕ) (from : Place) (k : ℕ) (place : Place) (steps : Route) (to : Place)
    → IsTrue (goes isa bits avoid seen from ((k, place) ∷ steps) to)
    → IsTrue (is_step isa bits avoid from (k, place)) × IsTrue (not (is_seen place.storage seen)) × IsTrue (goes isa bits avoid (place.storage ∷ seen) place steps to)
step_parts isa bits avoid seen from k place steps to p =
    three_true (is_step isa bits avoid from (k, place)) (not (is_seen place.storage seen)) (goes isa bits avoid (place.storage ∷ seen) place steps to) p

-- where no step leads on to a rest that is one shorter, there is no rest
pub none_longer : (isa : Isa) (bits : ℕ) (avoid : Option Place) (seen : List ℕ) (from : Place) (n : ℕ) (to : Place)
    → ((k : ℕ) (place : Place) → IsTrue (is_step isa bits avoid from (k, place)) → IsTrue (not (is_seen place.storage seen)) → HasNoRest isa bits avoid (place.storage ∷ seen) place n to)
    → HasNoRest isa bits avoid seen from (suc n) to
none_longer isa bits avoid seen from n to h [] long p = absurd (omega (arith, long))
none_longer isa bits avoid seen from n to h ((k, place) ∷ steps) long p =
    let parts = step_parts isa bits avoid seen from k place steps to p in
    h k place parts.0 parts.1 steps (omega (arith, long)) parts.2

both : (x y : Bool) → IsTrue x → IsTrue y → IsTrue (x && y)
both true true p q = refl
both true false p q = absurd (true≢false (sym q))
both false y p q = absurd (true≢false (sym p))

-- each route is a walk
pub goes_walks : (isa : Isa) (bits : ℕ) (avoid : Option Place) (seen : List ℕ) (from : Place) (r : Route) (to : Place)
    → IsTrue (goes isa bits avoid seen from r to) → IsTrue (walks isa bits avoid from r to)
goes_walks isa bits avoid seen from [] to p = p
goes_walks isa bits avoid seen from ((k, place) ∷ steps) to p =
    let parts = step_parts isa bits avoid seen from k place steps to p in
    both (is_step isa bits avoid from (k, place)) (walks isa bits avoid place steps to) parts.0 (goes_walks isa bits avoid (place.storage ∷ seen) place steps to parts.2)

-- as many storages more as steps
pub passed_long : (seen : List ℕ) (r : Route) → length (passed seen r) ≡ length r + length seen
passed_long seen [] = omega arith
passed_long seen ((k, place) ∷ steps) = let h = passed_long (place.storage ∷ seen) steps in omega (arith, h)
