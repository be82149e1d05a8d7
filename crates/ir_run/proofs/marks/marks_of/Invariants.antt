use Rattle.ir_run.proofs.Tables.{Walks}
use Rattle.ir_run.proofs.marks.marks_of.Given as goal

abbrev pub invariant-loop-at : goal.invariant-loop-at
invariant-loop-at l = Walks l.marks.entries l.at l.statements
