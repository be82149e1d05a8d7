use Rattle.graphs.proofs.Ranks.{Rising}
use Rattle.graphs.proofs.rank.rises.Given as goal

abbrev pub invariant-loop-a : goal.invariant-loop-a
invariant-loop-a l = Rising l.graph l.ranks l.limit l.a
