use Rattle.std.proofs.Common.{◌∙◌}
use Rattle.graphs.proofs.Settled.{passing_new, passing_old}
use Rattle.graphs.proofs.settle.pass.Goals as goal
use Rattle.graphs.proofs.settle.pass.Goals.{then-is_ready+in_ok-push, else-is_ready}

pub loop-a-preserved : goal.loop-a-preserved
loop-a-preserved c = elim c.if-is_ready.branch [
  | then-is_ready+in_ok-push w ↦ rw (w.placed-is, w.order-is, w.in_ok-push.ensures.items) (passing_new _ _ _ _ _ _ _ c.loop-a.invariant c.loop-a-test.true (c.as_slice.ensures ∙ c.index-graph-a.is) (c.is_ready.ensures.yes w.if-is_ready.true))
  | else-is_ready w ↦ rw (w.placed-is, w.order-is) (passing_old _ _ _ _ _ _ _ c.loop-a.invariant c.loop-a-test.true (c.as_slice.ensures ∙ c.index-graph-a.is) (c.is_ready.ensures.no w.if-is_ready.false))
]
