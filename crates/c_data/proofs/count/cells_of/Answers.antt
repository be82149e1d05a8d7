use Rattle.c_data.proofs.Wholes.{data_is}
use Rattle.c_data.proofs.count.cells_of.Goals as goal

pub returns : goal.returns
returns c = data_is c.in_ok-plan.plan c.args.t.now c.args.n c.count_cells.result c.in_ok-plan.ensures c.requires.accepted c.requires.low c.requires.high c.count_cells.ensures
