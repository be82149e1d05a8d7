use Rattle.shape_count.specs.Weights.{AreRight}
use Rattle.shape_count.proofs.size.greatest_size.Given as goal

abbrev pub invariant-loop : goal.invariant-loop
invariant-loop l = AreRight l.names l.known.entries
