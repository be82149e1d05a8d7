use Rattle.isg_legal.proofs.index.+reads.Given as goal

abbrev pub decreases-reads : goal.decreases-reads
decreases-reads l = l.n
