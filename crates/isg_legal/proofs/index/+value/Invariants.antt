use Rattle.isg_legal.proofs.index.+value.Given as goal

abbrev pub decreases-value : goal.decreases-value
decreases-value l = l.n
