use Rattle.graphs.proofs.Settled.{Passing}
use Rattle.graphs.proofs.settle.pass.Given as goal

abbrev pub invariant-loop-a : goal.invariant-loop-a
invariant-loop-a l = Passing l.graph l.fn.order.items l.order.items l.placed.items l.a
