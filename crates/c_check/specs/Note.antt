-- The least place of each kind of fault, of those that were met so far.
use Rattle.std.specs.Prelude.{ℕ, min, List, [], ◌∷◌, Option, Some, None}
use Rattle.c_tree.specs.Faults.{Fault, BadName, BadKind, BadNumber, BadShift}
use Rattle.c_check.specs.declared.note.Found.{Found}

abbrev pub sooner_of : Option ℕ → ℕ → Option ℕ
sooner_of None at = Some at
sooner_of (Some b) at = Some (min b at)

-- with one fault more
abbrev pub with_fault : Found → Fault → Found
with_fault w (BadName at) = record w { names = sooner_of w.names at }
with_fault w (BadKind at) = record w { kinds = sooner_of w.kinds at }
with_fault w (BadNumber at) = record w { numbers = sooner_of w.numbers at }
with_fault w (BadShift at) = record w { shifts = sooner_of w.shifts at }

-- with all of these
abbrev pub noted : Found → List Fault → Found
noted w [] = w
noted w (f ∷ fs) = noted (with_fault w f) fs

-- the least of one that may be known and of these
abbrev pub noted_places : Option ℕ → List ℕ → Option ℕ
noted_places found [] = found
noted_places found (x ∷ xs) = noted_places (sooner_of found x) xs

-- nothing was met
abbrev pub nothing : Found
nothing = record { names = None; kinds = None; numbers = None; shifts = None }
