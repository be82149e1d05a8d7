use Rattle.std.proofs.Common.{◌≡◌, ◌<◌, ◌++◌, map, length}
use Rattle.std.specs.Prelude.{All}
use Rattle.ir_run.specs.Entry.{entry}
use Rattle.c_pieces.specs.Pushed.{frame_shown, layout_shown}
use Rattle.c_plan.specs.Plan.{routine_shown}
use Rattle.c_lower.specs.Steps.{steps_of_others}
use Rattle.c_lower.proofs.written.push_others.Given as goal

abbrev pub invariant-loop-one : goal.invariant-loop-one
invariant-loop-one l =
    (map entry l.out.items
    ++ steps_of_others (layout_shown l.t) (map (routine_shown l.program.nodes.now) l.one-iterator.a.rest.now) (map frame_shown l.one-iterator.b.rest.now)
    ≡ map entry l.fn.out.items ++ steps_of_others (layout_shown l.t) (map (routine_shown l.program.nodes.now) l.others) (layout_shown l.t).frames)
    × All (λ r. r.body < length l.program.nodes.now) l.one-iterator.a.rest.now
