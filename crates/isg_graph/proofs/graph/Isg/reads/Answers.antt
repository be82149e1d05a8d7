use Rattle.std.proofs.Common.{rules, ◌≡◌, Some, subst, sym}
use Rattle.std.specs.Prelude.{slice_get}
use Rattle.isg_graph.specs.Graph.{AreFor, IsGraph}
use Rattle.isg_graph.specs.Kept.{AreReads}
use Rattle.isg_graph.proofs.Naming.{reads_names, reads_spots}
use Rattle.isg_graph.proofs.graph.Isg.reads.Goals as goal

pub returns-clause-spots : goal.returns-clause-spots
returns-clause-spots c =
    let whole : IsGraph c.args.self.now = subst IsGraph c.self.view_is c.self.invariant.0 in
    let are : AreFor (AreReads c.args.self.now.nodes) c.args.self.now.effects c.self.inside.reads.items = subst (λ g. AreFor (AreReads g.nodes) g.effects c.self.inside.reads.items) c.self.view_is c.self.invariant.2.reads_are in
    let at : slice_get c.self.inside.reads.items c.args.shape ≡ Some c.as_slice.result.now = search rules in
    reads_spots c.args.self.now whole c.self.inside.reads.items c.args.shape c.as_slice.result.now are c.requires.exists at

pub returns-clause-names : goal.returns-clause-names
returns-clause-names c =
    let whole : IsGraph c.args.self.now = subst IsGraph c.self.view_is c.self.invariant.0 in
    let are : AreFor (AreReads c.args.self.now.nodes) c.args.self.now.effects c.self.inside.reads.items = subst (λ g. AreFor (AreReads g.nodes) g.effects c.self.inside.reads.items) c.self.view_is c.self.invariant.2.reads_are in
    let at : slice_get c.self.inside.reads.items c.args.shape ≡ Some c.as_slice.result.now = search rules in
    λ x of. reads_names c.args.self.now whole c.self.inside.reads.items c.args.shape c.as_slice.result.now are at x of
