use Rattle.std.proofs.Common.{◌<◌, ℕ}
use Rattle.graphs.specs.Graphs.{Marked}
use Rattle.graphs.proofs.order.all.Given as goal

abbrev pub invariant-loop-i : goal.invariant-loop-i
invariant-loop-i l = (k : ℕ) → k < l.i → Marked l.placed.items k
