-- How many bits a number of a cell has, and how far statements shift.
use Rattle.std.specs.Prelude.{ℕ, ◌<◌, ◌≤◌, List, All}
use Rattle.ir_run.specs.Node.{Node, Const, Base, Label, Cell, In, Load, Unary, Shifted, Binary}
use Rattle.ir_run.specs.Entry.{Entry, Set, Store, Out, Branch, JumpCell, Jump, Mark, Halt}

-- each shift of the tree is by less than n
abbrev pub ShiftsBelow : ℕ → Node → Type 0
ShiftsBelow n (Const z) = Unit {0}
ShiftsBelow n (Base c) = Unit {0}
ShiftsBelow n (Label l) = Unit {0}
ShiftsBelow n (Cell k) = Unit {0}
ShiftsBelow n In = Unit {0}
ShiftsBelow n (Load t) = ShiftsBelow n t
ShiftsBelow n (Unary op t) = ShiftsBelow n t
ShiftsBelow n (Shifted op t k) = (k < n) × ShiftsBelow n t
ShiftsBelow n (Binary op t u) = ShiftsBelow n t × ShiftsBelow n u

-- each shift of the statement's trees
abbrev pub EntryShifts : ℕ → Entry → Type 0
EntryShifts n (Set k t) = ShiftsBelow n t
EntryShifts n (Store t u) = ShiftsBelow n t × ShiftsBelow n u
EntryShifts n (Out t) = ShiftsBelow n t
EntryShifts n (Branch r t u l) = ShiftsBelow n t × ShiftsBelow n u
EntryShifts n (JumpCell k) = Unit {0}
EntryShifts n (Jump l) = Unit {0}
EntryShifts n (Mark l) = Unit {0}
EntryShifts n (Halt code) = Unit {0}

-- each shift of the statements
abbrev pub AllShift : ℕ → List Entry → Type 0
AllShift n entries = All (EntryShifts n) entries

-- a number of a cell has 16 to 32 bits
abbrev pub IsCellWidth : ℕ → Type 0
IsCellWidth n = (16 ≤ n) × (n ≤ 32)
