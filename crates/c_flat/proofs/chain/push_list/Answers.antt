use Rattle.std.proofs.Common.{arith}
use Rattle.c_flat.proofs.Chained.{last_below, chained_more}
use Rattle.c_flat.proofs.chain.push_list.Goals as goal

pub loop-first-preserved : goal.loop-first-preserved
loop-first-preserved c =
    chained_more c.args.kind c.args.nodes.now.items c.loop-first.nodes.items _ c.args.numbers.items c.pop.new.self.items c.in-Some.first c.loop-first.rest _ c.link_node.result (rw c.in-Some.ensures.items at c.loop-first.invariant) c.requires.below c.in_ok-rest-2.ensures (c.link_node.ensures.is _)

pub push_node-requires-in-Some-clause-below : goal.push_node-requires-in-Some-clause-below
push_node-requires-in-Some-clause-below c =
    let below = last_below c.args.kind c.args.nodes.now.items c.loop-first.nodes.items c.args.numbers.items c.pop.new.self.items c.in-Some.first c.loop-first.rest (rw c.in-Some.ensures.items at c.loop-first.invariant) c.requires.below in
    c.link_node.ensures.below _ (omega (arith, below, c.loop-first.invariant.grew.extends.longer)) c.loop-first.invariant.grew.within
