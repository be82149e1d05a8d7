use Rattle.std.proofs.Common.{◌≡◌, ◌++◌, map, drop}
use Rattle.c_walk.specs.Walk.{further_gvars}
use Rattle.c_shapes.specs.Shapes.{variable_of, variable_shown}
use Rattle.c_shapes.proofs.variables.push_others.Given as goal

abbrev pub invariant-loop-one : goal.invariant-loop-one
invariant-loop-one l = map variable_shown l.variables.items ++ map variable_of (further_gvars (drop l.one-index l.rest)) ≡ map variable_shown l.fn.variables.items ++ map variable_of (further_gvars l.rest)
