use Rattle.std.proofs.Common.{◌≡◌, ◌++◌, map}
use Rattle.c_flat.specs.declared.node.Node.{Node}
use Rattle.c_pieces.specs.Pushed.{frame_shown}
use Rattle.c_plan.specs.Plan.{routine_shown}
use Rattle.c_tree.specs.Lowered.{arrays_of_functions}
use Rattle.std.specs.Prelude.{List}
use Rattle.c_lower.proofs.arrays.push_others.Given as goal

abbrev pub invariant-loop-one : goal.invariant-loop-one
invariant-loop-one l =
    (nodes : List Node)
    → l.out.items ++ arrays_of_functions (map (routine_shown nodes) l.one-iterator.a.rest.now) (map frame_shown l.one-iterator.b.rest.now)
    ≡ l.fn.out.items ++ arrays_of_functions (map (routine_shown nodes) l.others) (map frame_shown l.frames)
