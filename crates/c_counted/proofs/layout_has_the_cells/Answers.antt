use Rattle.c_counted.proofs.Cells.{cells_are_data}
use Rattle.c_counted.proofs.layout_has_the_cells.Goals as goal

pub returns : goal.returns
returns c = cells_are_data
