-- A list of statements as definitions see it: nothing, or a statement and the block behind it.
use Rattle.std.specs.Prelude.{ℕ, List, [], ◌∷◌, Option, Some, None, map, option_map}
use Rattle.nml_tree.specs.declared.names.Name.{Name}
use Rattle.nml_tree.specs.declared.expression.Expr.{Expr}
use Rattle.nml_tree.specs.declared.statement.Stmt.{Stmt}
use Rattle.nml_tree.specs.declared.statement.Stmt.TheOpen.{Stmt-F}
use Rattle.nml_tree.specs.declared.statement.Stmt.TheFolds.{fold-Stmt}
use Rattle.nml_tree.specs.declared.attributes.Action.{Action}
use Rattle.nml_tree.specs.Formula.{Formula, formula}

-- an index between its brackets, where there is one
abbrev pub Index : Type 0
Index = Option (ℕ × Formula × ℕ)

-- the parts of each case in the order in which they are written, and then the block behind the statement
pub data Block : Type 0 where
  Done : Block
  Assign : Name → Index → (equals : ℕ) → Formula → (semicolon : ℕ) → Block → Block
  Part : Name → (dot action semicolon : ℕ) → Block → Block
  Halt : (at opening : ℕ) → Formula → (closing semicolon : ℕ) → Block → Block
  If : (at : ℕ) → Formula → (then_at : ℕ) → Block → (end_at semicolon : ℕ) → Block → Block
  IfElse : (at : ℕ) → Formula → (then_at : ℕ) → Block → (else_at : ℕ) → Block → (end_at semicolon : ℕ) → Block → Block

-- the index of a place
abbrev pub index : Option (ℕ × Expr × ℕ) → Index
index = option_map (λ (p, i, q). (p, formula i, q))

-- statements, each of which puts itself before a block
abbrev pub chained : List (Block → Block) → Block
chained [] = Done
chained (stmt ∷ stmts) = stmt (chained stmts)

-- one statement before a block, over the statements within it
abbrev pub block_step : Stmt-F (Block → Block) → Block → Block
block_step (Stmt-F.Assign p at e semicolon) rest = Assign p.name (index p.index) at (formula e) semicolon rest
block_step (Stmt-F.Part n dot at semicolon) rest = Part n dot at semicolon rest
block_step (Stmt-F.Halt at p e q semicolon) rest = Halt at p (formula e) q semicolon rest
block_step (Stmt-F.If at c t xs None end semicolon) rest = If at (formula c) t (chained xs) end semicolon rest
block_step (Stmt-F.If at c t xs (Some (f, ys)) end semicolon) rest = IfElse at (formula c) t (chained xs) f (chained ys) end semicolon rest

-- a statement before a block
unfoldable pub stmt : Stmt → Block → Block
stmt = fold-Stmt (Block → Block) block_step

-- the block of a list of statements
abbrev pub block : List Stmt → Block
block stmts = chained (map stmt stmts)

-- the statements of an action; an absent one has none
abbrev pub action_block : Option Action → Block
action_block None = Done
action_block (Some a) = block a.stmts
