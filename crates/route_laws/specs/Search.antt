-- What a search of a route looks at: the storages that were seen, and how the rest of a route goes on.
use Rattle.std.specs.Prelude.{ℕ, ◌==◌, ◌≡◌, Bool, ◌&&◌, IsTrue, List, [], ◌∷◌, length, Option, if◌then◌else◌}
use Rattle.std.specs.List.{list_any}
use Rattle.isg_places.specs.declared.place.Place.{Place}
use Rattle.pat_core.specs.Isa.{Isa, same_place}
use Rattle.pat_core.specs.Route.{Route, is_step, goes}

-- the storage is one of these
abbrev pub is_seen : ℕ → List ℕ → Bool
is_seen n seen = list_any (λ m. m == n) seen

-- the same storages
abbrev pub SeesSame : List ℕ → List ℕ → Type 0
SeesSame a b = (n : ℕ) → is_seen n a ≡ is_seen n b

-- the storages seen after a route
abbrev pub passed : List ℕ → Route → List ℕ
passed seen [] = seen
passed seen ((k, place) ∷ steps) = passed (place.storage ∷ seen) steps

-- no rest of so many steps leads from here to the place
abbrev pub HasNoRest : (isa : Isa) (bits : ℕ) (avoid : Option Place) (seen : List ℕ) (from : Place) (n : ℕ) (to : Place) → Type 0
HasNoRest isa bits avoid seen from n to = (rest : Route) → length rest ≡ n → IsTrue (goes isa bits avoid seen from rest to) → ⊥

-- steps from one place to another, whatever storages they pass
abbrev pub walks : Isa → (bits : ℕ) → Option Place → Place → Route → Place → Bool
walks isa bits avoid from [] to = same_place from to
walks isa bits avoid from ((k, place) ∷ steps) to = is_step isa bits avoid from (k, place) && walks isa bits avoid place steps to

-- a cell of the list stays, any other is the cell r
abbrev pub rename : List ℕ → ℕ → ℕ → ℕ
rename ns r c = if is_seen c ns then c else r
