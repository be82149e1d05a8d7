use Rattle.std.proofs.Common.{nat_cmp}
use Rattle.std.specs.BTreeMap.{get}
use Rattle.shape_table.proofs.Latest.{Kept}
use Rattle.shape_table.proofs.label.next_same.Given as goal

abbrev pub decreases-loop-i : goal.decreases-loop-i
decreases-loop-i l = l.i

abbrev pub invariant-loop-i : goal.invariant-loop-i
invariant-loop-i l = Kept l.labels l.next.items l.i (get nat_cmp l.last)
