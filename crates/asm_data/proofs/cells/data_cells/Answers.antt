use Rattle.asm_data.proofs.Result.{give}
use Rattle.asm_data.proofs.cells.data_cells.Goals as goal

pub returns : goal.returns
returns c = give _ _ c.in_ok-values.values.entries c.in_ok-cells_of.field-0.items (c.in_ok-values.ensures _ c.in_ok-storages.ensures.are) c.in_ok-cells_of.ensures.are c.in_ok-cells_of.ensures.rise
