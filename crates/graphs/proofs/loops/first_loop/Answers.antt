use Rattle.graphs.proofs.Ranks.{none_at_all, none_before}
use Rattle.graphs.proofs.loops.first_loop.Goals as goal

pub returns-then-rule-graph : goal.returns-then-rule-graph
returns-then-rule-graph c = λ b r. none_at_all _ _ _ b (c.rises.ensures c.if-rises.true) c.if-rule-graph.true r

pub returns-then-branch : goal.returns-then-branch
returns-then-branch c = (c.in_ok-reaches_itself.ensures.0 c.if-branch.true, λ b r. none_before _ _ _ b (c.rises.ensures c.if-rises.true) r)
