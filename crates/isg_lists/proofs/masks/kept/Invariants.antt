use Rattle.std.proofs.Common.{◌-◌, length}
use Rattle.isg_lists.proofs.Search.{Made}
use Rattle.isg_lists.proofs.masks.kept.Given as goal

abbrev pub decreases-loop-mask : goal.decreases-loop-mask
decreases-loop-mask l = length l.groups.entries - l.k

abbrev pub invariant-loop-mask : goal.invariant-loop-mask
invariant-loop-mask l = Made l.shapes l.groups.entries l.k l.masks.items l.lists.items
