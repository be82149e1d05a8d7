-- The least of some places, taken one after the other.
use Rattle.std.specs.Prelude.{ℕ, List, [], ◌∷◌, Option, Some}
use Rattle.nml_tree.specs.Places.{earlier}

-- the least of one that may be known and of these
abbrev pub noted : Option ℕ → List ℕ → Option ℕ
noted found [] = found
noted found (at ∷ more) = noted (earlier found (Some at)) more
