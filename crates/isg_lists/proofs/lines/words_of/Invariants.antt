use Rattle.isg_lists.proofs.Lined.{BegunTo}
use Rattle.isg_lists.proofs.lines.words_of.Given as goal

abbrev pub invariant-loop-i : goal.invariant-loop-i
invariant-loop-i l = BegunTo l.words.keys l.shapes l.i
