use Rattle.std.proofs.Common.{◌≡◌, ◌∙◌, ap, subst, sym}
use Rattle.nml_tree.specs.Exec.{pc}
use Rattle.nml_tree.specs.Table.{table}
use Rattle.isg_nodes.specs.Written.{action}
use Rattle.isg_places.specs.Places.{jump_field}
use Rattle.isg_graph.specs.Graph.{Graph, IsGraph}
use Rattle.isg_graph.proofs.graph.Isg.jump_field.Goals as goal

pub returns : goal.returns
returns c =
    let whole : IsGraph c.args.self.now = subst IsGraph c.self.view_is c.self.invariant.0 in
    let number : c.self.inside.pc ≡ pc (table c.args.self.now.desc) = ap (λ (g : Graph). g.pc) c.self.view_is ∙ whole.pc_is in
    let field = jump_field (pc (table c.args.self.now.desc)) in
    let nodes = c.deref.ensures.value ∙ ap (λ (g : Graph). g.nodes) c.self.view_is in
    λ x of. c.jump_field.ensures ∙ (ap (λ p. jump_field p (action c.deref.result.now c.effect.result.now)) number ∙ (ap (λ ns. field (action ns c.effect.result.now)) nodes ∙ ap field (c.effect.ensures.action x of)))
