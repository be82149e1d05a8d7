use Rattle.std.proofs.Common.{◌≡◌, ◌+◌, ◌<◌, ◌++◌, map, drop, length}
use Rattle.std.specs.Prelude.{All}
use Rattle.c_tree.specs.Lowered.{frames, cells_of_all, marks_of_all}
use Rattle.c_pieces.specs.Pushed.{frame_shown}
use Rattle.c_plan.specs.Plan.{routine_shown}
use Rattle.c_lower.proofs.frames.frames_of.Given as goal

abbrev pub invariant-loop-one : goal.invariant-loop-one
invariant-loop-one l =
    (map frame_shown l.out.items ++ frames l.next.cell l.next.label (map (routine_shown l.program.nodes.now) (drop l.one-index l.others))
    ≡ frames l.fn.free.cell l.fn.free.label (map (routine_shown l.program.nodes.now) l.others))
    × (l.next.cell + cells_of_all (map (routine_shown l.program.nodes.now) (drop l.one-index l.others))
    ≡ l.fn.free.cell + cells_of_all (map (routine_shown l.program.nodes.now) l.others))
    × (l.next.label + marks_of_all (map (routine_shown l.program.nodes.now) (drop l.one-index l.others))
    ≡ l.fn.free.label + marks_of_all (map (routine_shown l.program.nodes.now) l.others))
    × All (λ r. r.body < length l.program.nodes.now) (drop l.one-index l.others)
