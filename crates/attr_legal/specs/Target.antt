-- What a place is that is assigned.
use Rattle.std.specs.Prelude.{ℕ, ◌==◌, if◌then◌else◌, Option, Some, None}
use Rattle.attr_legal.specs.declared.key.Key.TheVariants as key
use Rattle.attr_legal.specs.declared.target.Index.{Index}
use Rattle.attr_legal.specs.declared.target.Target.{Target}
use Rattle.attr_legal.specs.Key.{cell_at}
use Rattle.attr_legal.specs.Tally.{reads}
use Rattle.nml_tree.specs.Act.{Term, Cell, Trn, Out}
use Rattle.nml_tree.specs.Value.{View}

-- the number, where nothing is looked at
abbrev pub number_unless : (looks n : ℕ) → Option ℕ
number_unless looks n = if looks == 0 then Some n else None

-- what is known of an index, where a look at the input counts so much
abbrev pub index_of : View → (input : ℕ) → Term → Index
index_of v input i = record { at = cell_at v i; reads = reads 0 input i }

-- what a place is; an expression that is no place is nothing
abbrev pub target : View → (input : ℕ) → Term → Option Target
target v input (Cell n i) = Some (record { key = key.Cell n (cell_at v i); reads = reads 0 input i })
target v input (Trn n) = Some (record { key = key.Trn n; reads = 0 })
target v input Out = Some (record { key = key.Put; reads = 0 })
target v input _ = None
