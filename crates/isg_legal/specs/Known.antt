-- What is known of the cells that are written: where the fields are put in the constants, and else the written numbers.
use Rattle.std.specs.Prelude.{ℕ, ℤ, unsigned_abs, Bool, true, false, if◌then◌else◌, List, Option, Some, None}
use Rattle.attr_eval.specs.Alone.{alone}
use Rattle.attr_legal.specs.Key.{cell_at}
use Rattle.attr_legal.specs.declared.key.Key.{Key}
use Rattle.attr_legal.specs.declared.key.Key.TheVariants as key
use Rattle.isg_nodes.specs.Narrow.{IsNarrow}
use Rattle.nml_tree.specs.Act.{Term, Number, Act, Done, SetCell, SetTrn, Put, Halt, When}
use Rattle.nml_tree.specs.Legal.{Event, WritesCell, WritesTrn, Puts, Halts, Reads, is_constant}
use Rattle.nml_tree.specs.Value.{View, value, is_true}

-- the number that an index is, where it is a written number
abbrev pub number_of : Term → Option ℕ
number_of (Number z) = Some (unsigned_abs z)
number_of _ = None

-- the value of an expression that is constant
abbrev pub constant : View → Term → Option ℤ
constant v x = if is_constant x then Some (value v x) else None

-- the side that is chosen, where both and the condition are known
abbrev pub sides : Option ℤ → Option ℤ → Option ℤ → Option ℤ
sides (Some c) (Some x) (Some y) = Some (if is_true c then x else y)
sides _ _ _ = None

-- the cell that an index is, where it is known
abbrev pub cell_in : (put_in : Bool) → List ℤ → Term → Option ℕ
cell_in true zs i = cell_at (alone zs) i
cell_in false zs i = number_of i

-- what an event is
abbrev pub key_in : (put_in : Bool) → List ℤ → Event → Key
key_in b zs (WritesCell n i) = key.Cell n (cell_in b zs i)
key_in b zs (WritesTrn n) = key.Trn n
key_in b zs Puts = key.Put
key_in b zs Halts = key.Halt
key_in b zs Reads = key.Read

-- where the fields are put in, 128 bits hold the values in an index
abbrev pub IndexFits : (put_in : Bool) → List ℤ → Term → Type 0
IndexFits true zs i = IsNarrow (alone zs) i
IndexFits false zs i = Unit {0}

-- and so in that of each cell that is written
abbrev pub AreFit : (put_in : Bool) → List ℤ → Act → Type 0
AreFit b zs Done = Unit {0}
AreFit b zs (SetCell n i e rest) = IndexFits b zs i × AreFit b zs rest
AreFit b zs (SetTrn n e rest) = AreFit b zs rest
AreFit b zs (Put e rest) = AreFit b zs rest
AreFit b zs (Halt e rest) = AreFit b zs rest
AreFit b zs (When c x y rest) = AreFit b zs x × (AreFit b zs y × AreFit b zs rest)
