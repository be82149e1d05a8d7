use Rattle.input_lines.proofs.Lines.{IsSoFar, size_left}
use Rattle.input_lines.proofs.numbers.numbers_of.Given as goal

abbrev pub invariant-loop-rest : goal.invariant-loop-rest
invariant-loop-rest l = IsSoFar l.ty l.text l.line l.rest l.numbers.items

abbrev pub decreases-loop-rest : goal.decreases-loop-rest
decreases-loop-rest l = size_left l.rest
