use Rattle.std.proofs.Common.{◌≡◌, ◌++◌, map, take}
use Rattle.asm_text.specs.Canonical.{data_line, ended}
use Rattle.image_file.specs.Measured.{initial}
use Rattle.image_file.specs.Seen.{init_of}
use Rattle.nml_tree.specs.Table.{table}
use Rattle.disasm_tool.proofs.cells.push_cells.Given as goal

abbrev pub invariant-loop-cell : goal.invariant-loop-cell
invariant-loop-cell l = l.out ≡ l.fn.out ++ ended (map (data_line (table l.storages)) (map initial (map init_of (take l.cell-index l.cells))))
