use Rattle.std.proofs.Common.{◌≡◌, ◌++◌, map, drop}
use Rattle.c_tree.specs.Lowered.{initial_among}
use Rattle.c_shapes.specs.Shapes.{variable_shown}
use Rattle.c_lower.proofs.values.values_of.Given as goal

abbrev pub invariant-loop-variable : goal.invariant-loop-variable
invariant-loop-variable l =
    l.out.items ++ initial_among l.cell (map variable_shown (drop l.variable-index l.variables))
    ≡ initial_among 0 (map variable_shown l.variables)
