-- Routes: copies from one place to the next.
use Rattle.std.specs.Prelude.{ℕ, ◌==◌, ◌≤◌, nat_le, Bool, true, false, not, ◌&&◌, IsTrue, List, [], ◌∷◌, ◌++◌, length, Option, Some, None, unwrap_or, option_map, option_and_then}
use Rattle.std.specs.List.{list_any}
use Rattle.isg_places.specs.declared.place.Place.{Place}
use Rattle.pat_core.specs.Spot.{Spot}
use Rattle.pat_core.specs.Tile.{Form, Write}
use Rattle.pat_core.specs.Tile as tile
use Rattle.pat_core.specs.Shape.{Shape}
use Rattle.pat_core.specs.Patterns.{Pattern}
use Rattle.pat_core.specs.Isa.{Isa, pattern_at, same_place}
use Rattle.pat_core.specs.Instance.{Instance, instance, names, hits}

-- the number of a copy pattern, and the place that it writes
abbrev pub Step : Type 0
Step = ℕ × Place

-- steps one after the other
abbrev pub Route : Type 0
Route = List Step

-- the spot that a pattern reads and the one that it writes, where it is a copy: one with an operand as its tree
abbrev pub ends : Form ℕ → List Spot → Option (Spot × Spot)
ends (Write to (tile.Operand i)) (from ∷ []) = Some (from, to)
ends _ _ = None

-- the instance that copies one place to another
abbrev pub copying : (dm : ℕ) → Pattern → Shape → Place → Place → Option Instance
copying dm p s from to = option_and_then (λ (a, b). instance s (names dm a from ++ names dm b to)) (ends p.form p.operands)

-- no place to avoid, or the pattern writes another, clobbers included
abbrev pub avoids : Pattern → Place → Instance → Option Place → Bool
avoids p to i None = true
avoids p to i (Some place) = not (same_place to place) && not (list_any (hits i place) p.clobbers)

-- a step, with addresses of at least so many bits
abbrev pub is_step : Isa → (bits : ℕ) → Option Place → Place → Step → Bool
is_step isa bits avoid from (k, to) =
    unwrap_or (option_and_then (λ (p, s). option_map (λ i. nat_le bits p.bits && avoids p to i avoid) (copying isa.machine.dm p s from to)) (pattern_at isa k)) false

-- from a place behind these storages to another, no storage twice
abbrev pub goes : Isa → (bits : ℕ) → Option Place → List ℕ → Place → Route → Place → Bool
goes isa bits avoid seen from [] to = same_place from to
goes isa bits avoid seen from ((k, place) ∷ steps) to =
    is_step isa bits avoid from (k, place) && not (list_any (λ n. n == place.storage) seen)
    && goes isa bits avoid (place.storage ∷ seen) place steps to

-- a route from one place to another, with addresses of at least so many bits
abbrev pub is_route : Isa → (bits : ℕ) → Option Place → Place → Route → Place → Bool
is_route isa bits avoid from route to = goes isa bits avoid (from.storage ∷ []) from route to

-- no other is shorter
pub record IsShortest (isa : Isa) (bits : ℕ) (avoid : Option Place) (from : Place) (route : Route) (to : Place) : Type 0 where
  pub is : IsTrue (is_route isa bits avoid from route to)
  pub least : (other : Route) → IsTrue (is_route isa bits avoid from other to) → length route ≤ length other

-- where a route comes to
abbrev pub end_of : Place → Route → Place
end_of from [] = from
end_of from ((k, place) ∷ steps) = end_of place steps
