use Rattle.std.proofs.Common.{refl, arith, ◌≤◌, ◌+◌}
use Rattle.c_cycle.specs.Search.{rank}
use Rattle.c_cycle.proofs.Searches.{fall_more, fall_all}
use Rattle.c_cycle.proofs.rank.ranks_fall.Goals as goal

pub loop-x-preserved : goal.loop-x-preserved
loop-x-preserved c =
    let top : c.saturating_add.result ≤ rank c.args.ranks.now.items c.loop-x.x + 1 = let s = c.saturating_add.ensures in let i = c.item.ensures in omega (arith, s, i) in
    fall_more c.args.graph.now c.args.ranks.now.items c.loop-x.x _ _ _ c.loop-x.invariant c.loop-x-test.true c.requires c.index-graph-x.is c.as_slice.ensures top (c.if-not-are_below.ensures refl)

pub returns : goal.returns
returns c = λ all. fall_all c.args.graph.now c.args.ranks.now.items c.loop-x.x c.loop-x.invariant c.loop-x-test.false
