use Rattle.asm_source.proofs.Knowing.{Searched}
use Rattle.asm_source.proofs.labels.first_unknown.Given as goal

abbrev pub invariant-loop-line : goal.invariant-loop-line
invariant-loop-line l = Searched l.labels l.lines l.line-index l.number
