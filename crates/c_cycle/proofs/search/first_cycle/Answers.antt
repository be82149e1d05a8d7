use Rattle.std.proofs.Common.{refl}
use Rattle.c_cycle.proofs.Searches.{starts_below, no_cycle, first_least}
use Rattle.c_cycle.proofs.search.first_cycle.Goals as goal

pub returns-in-None : goal.returns-in-None
returns-in-None c = λ b r. no_cycle c.args.graph.now _ (c.if-ranks_fall.ensures refl) b (c.in-None.ensures.strict b (starts_below _ b b r)) r

pub returns-then-branch : goal.returns-then-branch
returns-then-branch c = (c.in_ok-reaches_itself-in-Some.ensures.0 c.if-branch.true, λ b r. first_least c.args.graph.now _ c.in-Some.first (c.if-ranks_fall.ensures refl) c.in-Some.ensures.strict b r)
