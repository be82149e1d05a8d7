use Rattle.graphs.proofs.Search.{Visiting}
use Rattle.graphs.proofs.reach.visit.Given as goal

abbrev pub invariant-loop-i : goal.invariant-loop-i
invariant-loop-i l = Visiting l.graph l.from l.fn.marks.items l.marks.items l.fn.work.items l.work.items l.names l.i
