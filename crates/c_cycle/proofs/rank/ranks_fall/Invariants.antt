use Rattle.std.proofs.Common.{◌<◌, ◌≤◌, ℕ, length}
use Rattle.c_tree.specs.Recursion.{Edge}
use Rattle.c_cycle.specs.Search.{rank}
use Rattle.c_cycle.proofs.rank.ranks_fall.Given as goal

abbrev pub invariant-loop-x : goal.invariant-loop-x
invariant-loop-x l = (x y : ℕ) → x < l.x → Edge l.graph x y → y < length l.graph → rank l.ranks.items y ≤ rank l.ranks.items x
