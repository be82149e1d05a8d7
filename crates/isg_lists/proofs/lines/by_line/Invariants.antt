use Rattle.isg_lists.proofs.Lined.{Lined}
use Rattle.isg_lists.proofs.lines.by_line.Given as goal

abbrev pub invariant-loop-i : goal.invariant-loop-i
invariant-loop-i l = Lined l.words.keys l.shapes l.i l.lists
