use Rattle.shape_count.specs.Tallies.{AreUpTo}
use Rattle.shape_count.proofs.rules.tallies.Given as goal

abbrev pub invariant-loop-p : goal.invariant-loop-p
invariant-loop-p l = AreUpTo l.names l.order l.tallies.items l.p
