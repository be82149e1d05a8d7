use Rattle.isg_lists.proofs.Grouping.{Grouped}
use Rattle.isg_lists.proofs.masks.by_mask.Given as goal

abbrev pub invariant-loop-i : goal.invariant-loop-i
invariant-loop-i l = Grouped l.shapes l.i l.lists
