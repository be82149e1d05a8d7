-- For private contracts: what a machine in code stands for, and what its steps come to.
use Rattle.std.specs.Prelude.{◌≡◌, ℕ, nat_eq, ℤ, List, [], ◌∷◌, drop, Option, Some, None}
use Rattle.std.specs.Map.{lookup}
use Rattle.ir_run.specs.Runs.{Turn, Goes, Ends}
use Rattle.ir_run.specs.Entry.{Entry}
use Rattle.ir_run.specs.Value.{State}
use Rattle.ir_run.specs.Run.{place_of, wants}
use Rattle.ir_run.specs.declared.machine.Machine.{Machine}
use Rattle.ir_run.specs.declared.machine.Moved.{Moved}
use Rattle.ir_run.specs.declared.machine.Moved.TheVariants as moves

-- the state that a machine is in, on this input
abbrev pub state_of : List ℤ → Machine → State
state_of input m = record { place = m.place; cells = m.cells.items; input = drop m.taken input }

-- goes on from a number, or wants an input
abbrev pub given : Option ℤ → (ℤ → State → Turn State) → State → Turn State
given None next s = wants
given (Some z) next s = next z s

-- what a move is, where the machine is then in this state
abbrev pub turn_of : Moved → State → Turn State
turn_of moves.Goes s = Goes [] s
turn_of (moves.Puts z) s = Goes (z ∷ []) s
turn_of (moves.Stops stop) s = Ends stop

-- the same where an input may be wanted
abbrev pub answered : Option Moved → State → Turn State
answered None s = wants
answered (Some m) s = turn_of m s

-- where a table has a label
abbrev pub found : List (ℕ × ℕ) → ℕ → Option ℕ
found table l = lookup (nat_eq l) table

-- a table has the first mark of each label
abbrev pub AreMarks : List (ℕ × ℕ) → List Entry → Type 0
AreMarks table entries = (l : ℕ) → found table l ≡ place_of entries l
