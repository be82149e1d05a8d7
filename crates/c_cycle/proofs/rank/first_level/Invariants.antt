use Rattle.c_cycle.specs.Search.{AreStrictBelow}
use Rattle.c_cycle.proofs.rank.first_level.Given as goal

abbrev pub invariant-loop-x : goal.invariant-loop-x
invariant-loop-x l = AreStrictBelow l.graph l.ranks.items l.x
