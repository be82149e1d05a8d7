use Rattle.std.proofs.Common.{rules, ◌≡◌, ◌∙◌, Some, subst}
use Rattle.std.specs.Prelude.{slice_get}
use Rattle.nml_shape.specs.Shown.{numbers_in}
use Rattle.isg_graph.specs.Graph.{IsGraph}
use Rattle.isg_graph.proofs.Instances.{fields_are}
use Rattle.isg_graph.proofs.graph.Isg.fields.Goals as goal

pub returns : goal.returns
returns c =
    let whole : IsGraph c.args.self.now = subst IsGraph c.self.view_is c.self.invariant.0 in
    let at : slice_get c.args.self.now.shapes c.args.i.shape ≡ Some c.shape_at.result.now = search rules in
    let same : numbers_in c.args.i.word c.shape_at.result.now.fields.items ≡ c.new.result = search rules in
    λ x is. fields_are c.args.self.now whole c.args.i c.shape_at.result.now x at is ∙ same
