-- The cells of storages that a written-out action names, and the field that it jumps by.
use Rattle.std.specs.Prelude.{ℕ, ◌==◌, pos, ◌-ℤ◌, ℤ, Bool, true, false, ◌&&◌, if◌then◌else◌, List, [], ◌∷◌, ◌++◌, Option, Some, None}
use Rattle.std.specs.List.{Contains}
use Rattle.nml_tree.specs.declared.operator.Bin.{Bin}
use Rattle.nml_tree.specs.declared.operator.Bin.TheVariants as bin
use Rattle.nml_tree.specs.Act.{Term, Act, Number, Field, Cell, Unary, Binary, Choose, Done, SetCell, SetTrn, Put, Halt, When}
use Rattle.nml_tree.specs.Value.{is_zero}

-- the cells that an expression names, each by its storage and its index, in the order written: a cell, then those in its index
abbrev pub reads_in : Term → List (ℕ × Term)
reads_in (Cell n i) = (n, i) ∷ reads_in i
reads_in (Unary op x) = reads_in x
reads_in (Binary op x y) = reads_in x ++ reads_in y
reads_in (Choose c x y) = reads_in c ++ reads_in x ++ reads_in y
reads_in _ = []

-- the cells that an action names as read, in the order written; both sides of each `if`, and the index of a place that is written
abbrev pub act_reads : Act → List (ℕ × Term)
act_reads Done = []
act_reads (SetCell n i e rest) = reads_in i ++ reads_in e ++ act_reads rest
act_reads (SetTrn n e rest) = reads_in e ++ act_reads rest
act_reads (Put e rest) = reads_in e ++ act_reads rest
act_reads (Halt e rest) = reads_in e ++ act_reads rest
act_reads (When c x y rest) = reads_in c ++ act_reads x ++ act_reads y ++ act_reads rest

-- the cells that an action names as written, in the order written; both sides of each `if`
abbrev pub act_writes : Act → List (ℕ × Term)
act_writes Done = []
act_writes (SetCell n i e rest) = (n, i) ∷ act_writes rest
act_writes (SetTrn n e rest) = act_writes rest
act_writes (Put e rest) = act_writes rest
act_writes (Halt e rest) = act_writes rest
act_writes (When c x y rest) = act_writes x ++ act_writes y ++ act_writes rest

-- the action names this cell
abbrev pub IsNamed : Act → ℕ × Term → Type 0
IsNamed a p = Contains (act_reads a ++ act_writes a) p

-- the values that an action assigns to PC, the storage of this number, in the order written
abbrev pub pc_values : ℕ → Act → List Term
pc_values pc Done = []
pc_values pc (SetCell n i e rest) = (if n == pc then e ∷ [] else []) ++ pc_values pc rest
pc_values pc (SetTrn n e rest) = pc_values pc rest
pc_values pc (Put e rest) = pc_values pc rest
pc_values pc (Halt e rest) = pc_values pc rest
pc_values pc (When c x y rest) = pc_values pc x ++ pc_values pc y ++ pc_values pc rest

-- the number that the expression is, as written
abbrev pub written_number : Term → Option ℤ
written_number (Number z) = Some z
written_number _ = None

-- it is this number
abbrev pub is_number : ℕ → Term → Bool
is_number k (Number z) = is_zero (z -ℤ pos k)
is_number k _ = false

-- PC, which has one cell
abbrev pub is_pc : ℕ → Term → Bool
is_pc pc (Cell n i) = (n == pc) && is_number 0 i
is_pc pc _ = false

abbrev pub is_add : Bin → Bool
is_add bin.Add = true
is_add _ = false

-- `PC + 1`
abbrev pub is_next : ℕ → Term → Bool
is_next pc (Binary op x y) = is_add op && is_pc pc x && is_number 1 y
is_next pc _ = false

-- the number of the field that the expression is
abbrev pub field_number : Term → Option ℕ
field_number (Field n) = Some n
field_number _ = None

-- the field that a value of PC is, alone or as the one side of an `if` whose other side is `PC + 1`
abbrev pub value_field : ℕ → Term → Option ℕ
value_field pc (Field n) = Some n
value_field pc (Choose c x y) = if is_next pc y then field_number x else if is_next pc x then field_number y else None
value_field pc _ = None

-- of the one value
abbrev pub one_field : ℕ → List Term → Option ℕ
one_field pc (e ∷ []) = value_field pc e
one_field pc _ = None

-- the field that the action's one write of PC assigns
abbrev pub jump_field : ℕ → Act → Option ℕ
jump_field pc a = one_field pc (pc_values pc a)
