use Rattle.graphs.specs.Graphs.{Ordering}
use Rattle.graphs.proofs.order.is_order.Given as goal

abbrev pub invariant-loop-i : goal.invariant-loop-i
invariant-loop-i l = Ordering l.graph l.order l.placed.items l.i
