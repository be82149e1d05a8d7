use Rattle.asm_source.proofs.Defining.{Defined}
use Rattle.asm_source.proofs.labels.defined.Given as goal

abbrev pub invariant-loop-line : goal.invariant-loop-line
invariant-loop-line l = Defined l.lines l.line-index l.number l.words l.numbers.entries l.doubled
