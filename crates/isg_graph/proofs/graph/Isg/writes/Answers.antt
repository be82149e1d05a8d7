use Rattle.std.proofs.Common.{rules, ◌≡◌, Some, subst, sym}
use Rattle.std.specs.Prelude.{slice_get}
use Rattle.isg_graph.specs.Graph.{AreFor, IsGraph}
use Rattle.isg_graph.specs.Kept.{AreWrites}
use Rattle.isg_graph.proofs.Naming.{writes_names, writes_spots}
use Rattle.isg_graph.proofs.graph.Isg.writes.Goals as goal

pub returns-clause-spots : goal.returns-clause-spots
returns-clause-spots c =
    let whole : IsGraph c.args.self.now = subst IsGraph c.self.view_is c.self.invariant.0 in
    let are : AreFor (AreWrites c.args.self.now.nodes) c.args.self.now.effects c.self.inside.writes.items = subst (λ g. AreFor (AreWrites g.nodes) g.effects c.self.inside.writes.items) c.self.view_is c.self.invariant.2.writes_are in
    let at : slice_get c.self.inside.writes.items c.args.shape ≡ Some c.as_slice.result.now = search rules in
    writes_spots c.args.self.now whole c.self.inside.writes.items c.args.shape c.as_slice.result.now are c.requires.exists at

pub returns-clause-names : goal.returns-clause-names
returns-clause-names c =
    let whole : IsGraph c.args.self.now = subst IsGraph c.self.view_is c.self.invariant.0 in
    let are : AreFor (AreWrites c.args.self.now.nodes) c.args.self.now.effects c.self.inside.writes.items = subst (λ g. AreFor (AreWrites g.nodes) g.effects c.self.inside.writes.items) c.self.view_is c.self.invariant.2.writes_are in
    let at : slice_get c.self.inside.writes.items c.args.shape ≡ Some c.as_slice.result.now = search rules in
    λ x of. writes_names c.args.self.now whole c.self.inside.writes.items c.args.shape c.as_slice.result.now are at x of
