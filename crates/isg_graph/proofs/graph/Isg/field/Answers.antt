use Rattle.std.proofs.Common.{rules, ◌∙◌, FitsSigned}
use Rattle.std.proofs.lemmas.Int.{to_z-of_z}
use Rattle.std.specs.Int.{w128}
use Rattle.isg_graph.proofs.Instances.{field_is}
use Rattle.isg_graph.proofs.graph.Isg.field.Goals as goal

pub returns : goal.returns
returns c =
    let fit : FitsSigned w128 c.number.result = search rules in
    λ x is. field_is c.args.self.now c.is_whole.ensures c.args.i x c.fields.result c.args.j _ is (c.fields.ensures x is) c.requires.exists (to_z-of_z w128 c.number.result fit ∙ c.number.ensures)
