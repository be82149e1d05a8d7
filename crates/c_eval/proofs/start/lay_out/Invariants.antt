use Rattle.c_eval.proofs.Cells.{Laying}
use Rattle.c_eval.proofs.start.lay_out.Given as goal

abbrev pub invariant-loop-one : goal.invariant-loop-one
invariant-loop-one l = Laying l.bodies l.from l.one-index l.entries.items l.at
