use Rattle.isg_places.proofs.constant.+constant_at.Given as goal

abbrev pub decreases-constant_at : goal.decreases-constant_at
decreases-constant_at l = l.n
