use Rattle.std.proofs.Common.{◌≡◌, map, drop, length, ◌<◌}
use Rattle.std.specs.Prelude.{All}
use Rattle.c_plan.specs.Plan.{routine_shown}
use Rattle.c_data.specs.Totals.{joined, functions_total}
use Rattle.c_data.proofs.functions.count_others.Given as goal

abbrev pub invariant-loop-one : goal.invariant-loop-one
invariant-loop-one l =
    (joined l.total (functions_total (map (routine_shown l.plan.nodes.items) (drop l.one-index l.plan.others.items)))
    ≡ functions_total (map (routine_shown l.plan.nodes.items) l.plan.others.items))
    × All (λ r. r.body < length l.plan.nodes.items) (drop l.one-index l.plan.others.items)
