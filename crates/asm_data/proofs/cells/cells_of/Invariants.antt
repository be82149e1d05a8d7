use Rattle.std.proofs.Common.{◌≡◌, ◌++◌, map, filter}
use Rattle.asm_data.specs.Given.{begun}
use Rattle.asm_data.specs.Values.{initials, is_some_value}
use Rattle.asm_data.proofs.cells.cells_of.Given as goal

abbrev pub invariant-loop-cell : goal.invariant-loop-cell
invariant-loop-cell l = map begun l.cells.items ++ filter is_some_value (initials l.cell-iterator) ≡ filter is_some_value (initials l.values.entries)
