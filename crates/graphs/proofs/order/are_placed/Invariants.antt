use Rattle.std.proofs.Common.{◌<◌, ℕ, get_or}
use Rattle.graphs.specs.Graphs.{Marked}
use Rattle.graphs.proofs.order.are_placed.Given as goal

abbrev pub invariant-loop-i : goal.invariant-loop-i
invariant-loop-i l = (k : ℕ) → k < l.i → Marked l.placed.items (get_or l.names k 0)
