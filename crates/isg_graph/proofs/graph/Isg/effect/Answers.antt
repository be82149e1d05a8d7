use Rattle.std.proofs.Common.{rules, ◌≡◌, Some, subst}
use Rattle.std.specs.Prelude.{slice_get}
use Rattle.isg_graph.specs.Graph.{IsGraph}
use Rattle.isg_graph.proofs.Instances.{effect_below, effect_is}
use Rattle.isg_graph.proofs.graph.Isg.effect.Goals as goal

pub returns-clause-below : goal.returns-clause-below
returns-clause-below c =
    let whole : IsGraph c.args.self.now = subst IsGraph c.self.view_is c.self.invariant.0 in
    let at : slice_get c.args.self.now.effects c.args.shape ≡ Some c.as_slice.result.now = search rules in
    effect_below c.args.self.now whole c.args.shape c.as_slice.result.now c.requires.exists at

pub returns-clause-action : goal.returns-clause-action
returns-clause-action c =
    let whole : IsGraph c.args.self.now = subst IsGraph c.self.view_is c.self.invariant.0 in
    let at : slice_get c.args.self.now.effects c.args.shape ≡ Some c.as_slice.result.now = search rules in
    λ x of. effect_is c.args.self.now whole c.args.shape c.as_slice.result.now x at of
