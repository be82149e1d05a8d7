use Rattle.std.proofs.Common.{map, drop, length, ◌<◌}
use Rattle.std.specs.Prelude.{All}
use Rattle.c_counted.specs.Total.{functions_numbers}
use Rattle.c_plan.specs.Plan.{routine_shown}
use Rattle.c_data.proofs.Parts.{Coming}
use Rattle.c_data.proofs.constants.push_others_numbers.Given as goal

abbrev pub invariant-loop-one : goal.invariant-loop-one
invariant-loop-one l =
    Coming l.n l.fn.out.items l.out.items
    (functions_numbers (map (routine_shown l.plan.nodes.items) (drop l.one-index l.plan.others.items)))
    (functions_numbers (map (routine_shown l.plan.nodes.items) l.plan.others.items))
    × All (λ r. r.body < length l.plan.nodes.items) (drop l.one-index l.plan.others.items)
