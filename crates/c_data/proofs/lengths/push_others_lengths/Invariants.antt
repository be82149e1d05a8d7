use Rattle.std.proofs.Common.{map, drop}
use Rattle.c_counted.specs.Total.{functions_lengths}
use Rattle.c_plan.specs.Plan.{routine_shown}
use Rattle.c_data.proofs.Parts.{Coming}
use Rattle.c_data.proofs.lengths.push_others_lengths.Given as goal

abbrev pub invariant-loop-one : goal.invariant-loop-one
invariant-loop-one l =
    Coming l.n l.fn.out.items l.out.items
    (functions_lengths (map (routine_shown l.plan.nodes.items) (drop l.one-index l.plan.others.items)))
    (functions_lengths (map (routine_shown l.plan.nodes.items) l.plan.others.items))
