-- What an event is, with the cell's number in place of its index.
use Rattle.std.specs.Prelude.{ℕ, ◌==◌, unsigned_abs, Bool, true, false, ◌&&◌, if◌then◌else◌, Option, Some, None}
use Rattle.attr_legal.specs.declared.key.Key.{Key}
use Rattle.attr_legal.specs.declared.key.Key.TheVariants.{Cell, Trn, Put, Halt, Read}
use Rattle.nml_tree.specs.Act.{Term}
use Rattle.nml_tree.specs.Legal.{Event, WritesCell, WritesTrn, Puts, Halts, Reads, is_constant}
use Rattle.nml_tree.specs.Value.{View, value}

-- the number that an index is, where it is constant
abbrev pub cell_at : View → Term → Option ℕ
cell_at v i = if is_constant i then Some (unsigned_abs (value v i)) else None

-- what an event is
abbrev pub key_of : View → Event → Key
key_of v (WritesCell n i) = Cell n (cell_at v i)
key_of v (WritesTrn n) = Trn n
key_of v Puts = Put
key_of v Halts = Halt
key_of v Reads = Read

-- a cell that isn't known may be any; where the first isn't known, cell 0 is asked for
abbrev pub is_at : Option ℕ → Option ℕ → Bool
is_at k None = true
is_at None (Some j) = j == 0
is_at (Some k) (Some j) = k == j

-- the second may be one and the same as the first
abbrev pub meets : Key → Key → Bool
meets (Cell n k) (Cell m j) = (n == m) && is_at k j
meets (Trn n) (Trn m) = n == m
meets Put Put = true
meets Halt Halt = true
meets Read Read = true
meets _ _ = false
