-- For private contracts: the number of a cell.
use Rattle.std.specs.Prelude.{ℕ, ◌+◌}
use Rattle.c_machine.specs.declared.data.Cell.{Cell}

abbrev pub cell_number : Cell → ℕ
cell_number c = c.base + c.first + c.index
