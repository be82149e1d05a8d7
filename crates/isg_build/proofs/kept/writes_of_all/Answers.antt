use Rattle.std.proofs.Common.{rules, ◌+◌, ◌≡◌, [], ◌∷◌, ◌++◌, subst, sym, take}
use Rattle.isg_graph.specs.Graph.{AreFor}
use Rattle.isg_graph.specs.Kept.{AreWrites}
use Rattle.isg_graph.proofs.Gathered.{for_next}
use Rattle.isg_build.proofs.kept.writes_of_all.Goals as goal

pub loop-effect-preserved : goal.loop-effect-preserved
loop-effect-preserved c =
    let items : c.push.new.self.items ≡ c.loop-effect.all.items ++ c.in_ok-writes_at.field-0 ∷ [] = search rules in
    subst (AreFor (AreWrites c.args.nodes.now) (take (c.loop-effect.effect-index + 1) c.args.effects.now)) (sym items)
    (for_next (AreWrites c.args.nodes.now) c.args.effects.now c.loop-effect.all.items c.loop-effect.effect-index c.effect-item.result c.in_ok-writes_at.field-0 c.loop-effect-test.true c.loop-effect.invariant (subst (λ e. AreWrites c.args.nodes.now e c.in_ok-writes_at.field-0) c.effect-item.is c.in_ok-writes_at.ensures))
