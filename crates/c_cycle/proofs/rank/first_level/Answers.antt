use Rattle.std.proofs.Common.{refl}
use Rattle.c_cycle.proofs.Searches.{strict_more}
use Rattle.c_cycle.proofs.rank.first_level.Goals as goal

pub loop-x-preserved : goal.loop-x-preserved
loop-x-preserved c = strict_more c.args.graph.now c.args.ranks.now.items c.loop-x.x _ _ _ c.loop-x.invariant c.loop-x-test.true c.requires c.index-graph-x.is c.as_slice.ensures c.item.ensures (c.if-not-are_below.ensures refl)
