-- The parameters of a rule in a description.
use Rattle.std.specs.Prelude.{ℕ, List, Option, map}
use Rattle.nml_tree.specs.declared.tree.Pars as tree
use Rattle.nml_tree.specs.declared.tree.Par.{Par}
use Rattle.nml_tree.specs.declared.tree.Desc.{Desc}
use Rattle.nml_tree.specs.Directives.{Pars}
use Rattle.nml_tree.specs.Table.{parameter_of, pars_of, table}

-- the parameters, each a field, a part, or neither
abbrev pub what_are : Desc → List Par → Pars
what_are d ps = map (λ p. (p.name.text, parameter_of (table d) p.ty)) ps

-- those of a rule
abbrev pub around : Desc × Option tree.Pars → Pars
around s = what_are s.0 (pars_of s.1)

-- further parameters, without their commas
abbrev pub further : List (ℕ × Par) → List Par
further rest = map (λ (comma, p). p) rest
