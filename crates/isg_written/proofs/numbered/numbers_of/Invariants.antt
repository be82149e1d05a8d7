use Rattle.isg_written.proofs.Numbering.{Numbering}
use Rattle.isg_written.proofs.numbered.numbers_of.Given as goal

abbrev pub invariant-loop-i : goal.invariant-loop-i
invariant-loop-i l = Numbering l.items l.i l.numbers.items l.counts
