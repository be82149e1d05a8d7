use Rattle.std.proofs.Common.{◌∙◌, refl, arith}
use Rattle.graphs.proofs.Search.{ordering_step, is_order}
use Rattle.graphs.proofs.order.is_order.Goals as goal

pub loop-i-preserved : goal.loop-i-preserved
loop-i-preserved c = ordering_step _ _ _ _ _ _ c.loop-i.invariant c.loop-i-test.true c.if-rule-graph.false (c.as_slice.ensures ∙ c.index-graph-rule.is) (c.if-not-are_placed.ensures.0 refl)

pub returns : goal.returns
returns c = λ yes. is_order _ _ _ c.loop-i.i c.loop-i.invariant (omega arith) (omega arith) (c.all.ensures yes)
