use Rattle.std.proofs.Common.{rules, ◌≡◌, ◌++◌, ◌+◌, ◌<◌, filter, length, get_or}
use Rattle.std.specs.Prelude.{not}
use Rattle.c_tree.specs.Program.{size}
use Rattle.c_tree.specs.Lowered.{numbered, is_zero, initial_among}
use Rattle.std.proofs.Common.{map}
use Rattle.c_shapes.specs.Shapes.{variable_shown}
use Rattle.c_lower.proofs.Initial.{values_step}
use Rattle.c_lower.proofs.values.values_of.Goals as goal

pub loop-variable-preserved : goal.loop-variable-preserved
loop-variable-preserved c =
    let v = c.variable-item.result in
    let within : c.loop-variable.variable-index < length c.args.variables.now = search rules in
    let at : v ≡ get_or c.args.variables.now c.loop-variable.variable-index v = search rules in
    let new_is : c.push_values.new.out.items ≡ c.loop-variable.out.items ++ filter (λ (k, z). not (is_zero z)) (numbered c.loop-variable.cell (variable_shown v).initial) = search rules in
    let next_is : c.in_ok-cell.cell ≡ c.loop-variable.cell + size (variable_shown v).shape = search rules in
    values_step variable_shown c.args.variables.now c.loop-variable.variable-index v c.loop-variable.cell c.in_ok-cell.cell c.loop-variable.out.items c.push_values.new.out.items
    (initial_among 0 (map variable_shown c.args.variables.now)) within at new_is next_is c.loop-variable.invariant
