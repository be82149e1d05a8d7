-- The parts of items, rule by rule, as the code goes through them.
use Rattle.std.specs.Prelude.{ℕ, List, map}
use Rattle.nml_tree.specs.declared.names.Name.{Name}
use Rattle.nml_tree.specs.declared.tree.Par.{Par}

-- further parameters, without their commas
abbrev pub further : List (ℕ × Par) → List Par
further rest = map (λ (comma, p). p) rest

-- further alternatives, without their bars
abbrev pub alternatives_behind : List (ℕ × Name) → List Name
alternatives_behind rest = map (λ (bar, n). n) rest
