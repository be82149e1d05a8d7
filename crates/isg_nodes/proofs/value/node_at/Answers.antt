use Rattle.nml_tree.specs.Act.{Done}
use Rattle.isg_nodes.proofs.Written.{term_at, statement_at}
use Rattle.isg_nodes.proofs.value.node_at.Goals as goal

pub returns-clause-below : goal.returns-clause-below
returns-clause-below c = c.requires.falls.each _ _ c.get.ensures

pub returns-clause-value : goal.returns-clause-value
returns-clause-value c = term_at _ _ _ c.get.ensures (c.requires.falls.each _ _ c.get.ensures)

pub returns-clause-act : goal.returns-clause-act
returns-clause-act c = statement_at _ _ _ Done c.get.ensures (c.requires.falls.each _ _ c.get.ensures)
