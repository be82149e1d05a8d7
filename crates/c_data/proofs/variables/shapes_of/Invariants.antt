use Rattle.std.proofs.Common.{◌≡◌, ◌++◌, map, drop}
use Rattle.c_shapes.specs.Shapes.{variable_shown}
use Rattle.c_data.proofs.variables.shapes_of.Given as goal

abbrev pub invariant-loop-variable : goal.invariant-loop-variable
invariant-loop-variable l =
    l.shapes.items ++ map (λ v. v.shape) (map variable_shown (drop l.variable-index l.variables))
    ≡ map (λ v. v.shape) (map variable_shown l.variables)
