use Rattle.std.proofs.Common.{sym, ◌∙◌}
use Rattle.c_flat.proofs.Grown.{written_at}
use Rattle.c_tally.proofs.read.node_of.Goals as goal

pub returns-in-Some-clause-is : goal.returns-in-Some-clause-is
returns-in-Some-clause-is c =
    let is = sym c.found.ensures ∙ c.in-Some.is in
    sym (written_at c.args.nodes.now c.args.k c.in-Some.node is (c.requires.falls.each c.args.k c.in-Some.node is))

pub returns-in-Some-clause-below : goal.returns-in-Some-clause-below
returns-in-Some-clause-below c = c.requires.falls.each c.args.k c.in-Some.node (sym c.found.ensures ∙ c.in-Some.is)
