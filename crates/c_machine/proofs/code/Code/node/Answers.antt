use Rattle.std.proofs.Common.{sym, ◌∙◌}
use Rattle.c_flat.proofs.Grown.{written_at}
use Rattle.c_machine.proofs.Nodes.{written_nowhere}
use Rattle.c_machine.proofs.code.Code.node.Goals as goal

pub returns-in-None : goal.returns-in-None
returns-in-None c = sym (written_nowhere c.args.self.now.nodes.items c.args.number (sym c.found.ensures ∙ c.in-None.is))

pub returns-in-Some : goal.returns-in-Some
returns-in-Some c =
    let is = sym c.found.ensures ∙ c.in-Some.is in
    sym (written_at c.args.self.now.nodes.items c.args.number c.in-Some.found is (c.requires.each c.args.number c.in-Some.found is))
