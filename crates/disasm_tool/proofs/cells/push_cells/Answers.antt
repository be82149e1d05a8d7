use Rattle.nml_tree.specs.Table.{table}
use Rattle.disasm_tool.proofs.Values.{cell_at}
use Rattle.disasm_tool.proofs.cells.push_cells.Goals as goal

pub push_cell-requires : goal.push_cell-requires
push_cell-requires c = cell_at (table c.args.storages.now) c.args.cells.now c.loop-cell.cell-index _ c.requires c.loop-cell-test.true
