use Rattle.std.proofs.Common.{◌≡◌, ◌++◌, map, drop}
use Rattle.c_tree.specs.Items.{item}
use Rattle.c_tree.specs.Resolve.{global_variables}
use Rattle.c_shapes.specs.Shapes.{variable_shown}
use Rattle.c_shapes.proofs.variables.variables_of.Given as goal

abbrev pub invariant-loop-one : goal.invariant-loop-one
invariant-loop-one l = map variable_shown l.variables.items ++ global_variables (map item (drop l.one-index l.globals)) ≡ global_variables (map item l.globals)
