use Rattle.std.proofs.Common.{rules, ◌+◌, ◌≡◌, ◌∷◌, ◌++◌, [], subst, sym, take}
use Rattle.isg_graph.specs.Graph.{IsEffect}
use Rattle.isg_build.proofs.Gathering.{Gathers, gather_next}
use Rattle.isg_build.proofs.actions.actions_of.Goals as goal

pub loop-shape-preserved : goal.loop-shape-preserved
loop-shape-preserved c =
    let items : c.push.new.self.items ≡ c.loop-shape.effects.items ++ c.in_ok-effect.effect ∷ [] = search rules in
    subst (Gathers c.args.names.now c.effect_at.new.nodes.items (take (c.loop-shape.shape-index + 1) c.args.shapes.now)) (sym items)
    (gather_next c.args.names.now c.args.shapes.now c.loop-shape.shape-index c.shape-item.result c.loop-shape.nodes.items c.effect_at.new.nodes.items c.loop-shape.effects.items c.in_ok-effect.effect c.loop-shape-test.true c.loop-shape.invariant c.effect_at.ensures.falls c.effect_at.ensures.extends (subst (λ s. IsEffect c.args.names.now c.effect_at.new.nodes.items s c.in_ok-effect.effect) c.shape-item.is (subst (λ q. IsEffect q c.effect_at.new.nodes.items c.shape-item.result c.in_ok-effect.effect) c.in_ok-numbered.ensures c.in_ok-effect.ensures.effect)))
