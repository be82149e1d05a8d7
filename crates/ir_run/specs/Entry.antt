-- Statements and lists of them as definitions see them.
use Rattle.std.specs.Prelude.{ℕ, ℤ, List, map}
use Rattle.ir_core.specs.declared.relation.Rel.{Rel}
use Rattle.ir_run.specs.Node.{Node, node}
use Rattle.ir_run.specs.declared.statement.Stmt.{Stmt}
use Rattle.ir_run.specs.declared.statement.Stmt.TheVariants as stmt
use Rattle.ir_run.specs.declared.ir.Ir.{Ir}

-- a statement: an entry of a list
pub data Entry : Type 0 where
  Set : (cell : ℕ) → Node → Entry  -- puts a value into a cell
  Store : (address : Node) → Node → Entry  -- puts a value into the cell whose number the address is worth
  Out : Node → Entry  -- puts out a number
  Branch : Rel → Node → Node → (label : ℕ) → Entry  -- goes to the label's mark where the two are so related
  JumpCell : (cell : ℕ) → Entry  -- goes to the mark of the label that the cell holds
  Jump : (label : ℕ) → Entry  -- goes to the label's mark
  Mark : (label : ℕ) → Entry  -- where the label stands
  Halt : (code : ℕ) → Entry  -- stops

abbrev pub entry : Stmt → Entry
entry (stmt.Set k t) = Set k (node t)
entry (stmt.Store t u) = Store (node t) (node u)
entry (stmt.Out t) = Out (node t)
entry (stmt.Branch r t u l) = Branch r (node t) (node u) l
entry (stmt.JumpCell k) = JumpCell k
entry (stmt.Jump l) = Jump l
entry (stmt.Mark l) = Mark l
entry (stmt.Halt code) = Halt code

-- cells with what they hold from the start: constants, arrays' first cells, labels; and the first temporary
pub record Homes : Type 0 where
  pub consts : List (ℕ × ℤ)
  pub bases : List (ℕ × ℕ)
  pub labels : List (ℕ × ℕ)
  pub temps : ℕ

-- the statements, how many cells they have, what cells hold at the start, each array's first cell and length, and the homes
pub record Listing : Type 0 where
  pub entries : List Entry
  pub cells : ℕ
  pub start : List (ℕ × ℤ)
  pub arrays : List (ℕ × ℕ)
  pub homes : Homes

abbrev pub listing : Ir → Listing
listing i = record {
  entries = map entry i.stmts;
  cells = i.cells;
  start = i.start;
  arrays = i.arrays;
  homes = record { consts = i.homes.consts; bases = i.homes.bases; labels = i.homes.labels; temps = i.homes.temps };
}
