use Rattle.std.proofs.Common.{◌≡◌, ◌++◌, map, drop}
use Rattle.c_homes.proofs.homes.first_cells.Given as goal

abbrev pub invariant-loop-cell : goal.invariant-loop-cell
invariant-loop-cell l = map (λ (cell, length). cell) l.arrays ≡ l.cells.items ++ map (λ (cell, length). cell) (drop l.cell-index l.arrays)
