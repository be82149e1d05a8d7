use Rattle.std.proofs.Common.{rules, ◌∙◌, ◌<◌, ◌≡◌, true, nat_lt, refl}
use Rattle.graphs.proofs.Ranks.{rising_step, rising_all}
use Rattle.graphs.proofs.rank.rises.Goals as goal

pub loop-a-preserved : goal.loop-a-preserved
loop-a-preserved c =
    let told : c.loop-a.a < c.args.limit → nat_lt c.loop-a.a c.args.limit ≡ true = search rules in
    let up = rw c.rank_of.ensures at c.if-not-all_up.ensures refl in
    rising_step _ _ _ _ _ _ _ c.loop-a.invariant c.loop-a-test.true (c.as_slice.ensures ∙ c.index-graph-a.is) told up

pub returns : goal.returns
returns c = λ yes. rising_all _ _ _ c.loop-a.a c.loop-a.invariant c.loop-a-test.false
