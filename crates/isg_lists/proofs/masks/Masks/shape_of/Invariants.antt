use Rattle.isg_lists.proofs.Search.{Passed}
use Rattle.isg_lists.proofs.masks.Masks.shape_of.Given as goal

abbrev pub invariant-loop-list : goal.invariant-loop-list
invariant-loop-list l = Passed l.self l.word l.list-index
