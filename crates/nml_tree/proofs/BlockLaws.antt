-- A statement before a block, one level at a time.
use Rattle.std.proofs.Common.{ℕ, List, ◌≡◌, sym, ◌∙◌, ap, Some, None}
use Rattle.nml_tree.specs.declared.names.Name.{Name}
use Rattle.nml_tree.specs.declared.expression.Expr.{Expr}
use Rattle.nml_tree.specs.declared.statement.Place.{Place}
use Rattle.nml_tree.specs.declared.statement.Stmt.{Stmt}
use Rattle.nml_tree.specs.declared.statement.Stmt.TheOpen.{Stmt-F}
use Rattle.nml_tree.specs.declared.statement.Stmt.TheFolds.{fold-Stmt, fold-roll-Stmt, map-Stmt}
use Rattle.nml_tree.specs.declared.statement.Stmt.TheViews.{roll-Stmt}
use Rattle.nml_tree.specs.declared.statement.Stmt.TheVariants as s
use Rattle.nml_tree.specs.Formula.{formula}
use Rattle.nml_tree.specs.Block.{Block, Assign, Part, Halt, If, IfElse, block_step, stmt, block, index}

-- any statement
pub stmt_at : {d : Stmt} (l : Stmt-F Stmt) → roll-Stmt l ≡ d → (rest : Block) → stmt d rest ≡ block_step (map-Stmt Stmt (Block → Block) stmt l) rest
unfolding stmt
stmt_at l is rest = ap (λ x. fold-Stmt (Block → Block) block_step x rest) (sym is) ∙ ap (λ f. f rest) (fold-roll-Stmt (Block → Block) block_step l)

-- and each kind of statement
pub stmt-Assign : (p : Place) (at : ℕ) (x : Expr) (semicolon : ℕ) (rest : Block) → stmt (s.Assign p at x semicolon) rest ≡ Assign p.name (index p.index) at (formula x) semicolon rest
stmt-Assign p at x semicolon rest = stmt_at (Stmt-F.Assign p at x semicolon) (s.rolls-Assign p at x semicolon) rest

pub stmt-Part : (n : Name) (dot at semicolon : ℕ) (rest : Block) → stmt (s.Part n dot at semicolon) rest ≡ Part n dot at semicolon rest
stmt-Part n dot at semicolon rest = stmt_at (Stmt-F.Part n dot at semicolon) (s.rolls-Part n dot at semicolon) rest

pub stmt-Halt : (at p : ℕ) (x : Expr) (q semicolon : ℕ) (rest : Block) → stmt (s.Halt at p x q semicolon) rest ≡ Halt at p (formula x) q semicolon rest
stmt-Halt at p x q semicolon rest = stmt_at (Stmt-F.Halt at p x q semicolon) (s.rolls-Halt at p x q semicolon) rest

pub stmt-If : (at : ℕ) (c : Expr) (t : ℕ) (xs : List Stmt) (end semicolon : ℕ) (rest : Block) → stmt (s.If at c t xs None end semicolon) rest ≡ If at (formula c) t (block xs) end semicolon rest
stmt-If at c t xs end semicolon rest = stmt_at (Stmt-F.If at c t xs None end semicolon) (s.rolls-If at c t xs None end semicolon) rest

pub stmt-If_else : (at : ℕ) (c : Expr) (t : ℕ) (xs : List Stmt) (f : ℕ) (ys : List Stmt) (end semicolon : ℕ) (rest : Block) → stmt (s.If at c t xs (Some (f, ys)) end semicolon) rest ≡ IfElse at (formula c) t (block xs) f (block ys) end semicolon rest
stmt-If_else at c t xs f ys end semicolon rest = stmt_at (Stmt-F.If at c t xs (Some (f, ys)) end semicolon) (s.rolls-If at c t xs (Some (f, ys)) end semicolon) rest

pub ruleset block_laws = (stmt-Assign, stmt-Part, stmt-Halt, stmt-If, stmt-If_else)
