use Rattle.shape_count.specs.Weights.{AreSummaries}
use Rattle.shape_count.proofs.summary.summaries.Given as goal

abbrev pub invariant-loop-number : goal.invariant-loop-number
invariant-loop-number l = AreSummaries l.names l.number l.all.items
