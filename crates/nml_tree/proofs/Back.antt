-- The formula of an expression and the block of statements keep all that the tree says.
use Rattle.std.proofs.Common.{ℕ, List, [], ◌∷◌, map, Option, ◌≡◌, refl, sym, ◌∙◌, ap, subst, Some, None}
use Rattle.nml_tree.specs.declared.expression.Expr.{Expr}
use Rattle.nml_tree.specs.declared.expression.Expr.TheOpen.{Expr-F}
use Rattle.nml_tree.specs.declared.expression.Expr.TheFolds.{map-Expr, ind-Expr}
use Rattle.nml_tree.specs.declared.expression.Expr.TheViews.{roll-Expr}
use Rattle.nml_tree.specs.declared.expression.Expr.TheVariants as e
use Rattle.nml_tree.specs.declared.statement.Stmt.{Stmt}
use Rattle.nml_tree.specs.declared.statement.Stmt.TheOpen.{Stmt-F}
use Rattle.nml_tree.specs.declared.statement.Stmt.TheFolds.{map-Stmt, ind-Stmt}
use Rattle.nml_tree.specs.declared.statement.Stmt.TheViews.{roll-Stmt}
use Rattle.nml_tree.specs.declared.statement.Stmt.TheVariants as s
use Rattle.nml_tree.specs.Formula.{Formula, formula, formula_step}
use Rattle.nml_tree.specs.Block.{Block, index, chained, block_step, stmt, block}
use Rattle.nml_tree.specs.Inverse.{expr_of, index_of, stmts_of}
use Rattle.nml_tree.proofs.FormulaLaws.{formula_at}
use Rattle.nml_tree.proofs.BlockLaws.{stmt_at}

-- an expression for which the formula is known to keep all
abbrev Kid : Type 0
Kid = (x : Expr) × (expr_of (formula x) ≡ x)

abbrev plain : Expr-F Kid → Expr-F Expr
plain y = map-Expr Kid Expr (λ x. x.0) y

step : (y : Expr-F Kid) → expr_of (formula_step (map-Expr Expr Formula formula (plain y))) ≡ roll-Expr (plain y)
step (Expr-F.Number n) = sym (e.rolls-Number n)
step (Expr-F.True at) = sym (e.rolls-True at)
step (Expr-F.False at) = sym (e.rolls-False at)
step (Expr-F.Name n None) = sym (e.rolls-Name n None)
step (Expr-F.Name n (Some (p, i, q))) = rw i.1 (sym (e.rolls-Name n (Some (p, i.0, q))))
step (Expr-F.Paren p x q) = rw x.1 (sym (e.rolls-Paren p x.0 q))
step (Expr-F.Int at p n c x q) = rw x.1 (sym (e.rolls-Int at p n c x.0 q))
step (Expr-F.Card at p n c x q) = rw x.1 (sym (e.rolls-Card at p n c x.0 q))
step (Expr-F.Sat at p n c x q) = rw x.1 (sym (e.rolls-Sat at p n c x.0 q))
step (Expr-F.Bits at p x c high d low q) = rw x.1 (sym (e.rolls-Bits at p x.0 c high d low q))
step (Expr-F.If at c t x f y end) = rw (c.1, x.1, y.1) (sym (e.rolls-If at c.0 t x.0 f y.0 end))
step (Expr-F.Neg at x) = rw x.1 (sym (e.rolls-Neg at x.0))
step (Expr-F.Inv at x) = rw x.1 (sym (e.rolls-Inv at x.0))
step (Expr-F.Not at x) = rw x.1 (sym (e.rolls-Not at x.0))
step (Expr-F.OrElse x at y) = rw (x.1, y.1) (sym (e.rolls-OrElse x.0 at y.0))
step (Expr-F.AndAlso x at y) = rw (x.1, y.1) (sym (e.rolls-AndAlso x.0 at y.0))
step (Expr-F.Or x at y) = rw (x.1, y.1) (sym (e.rolls-Or x.0 at y.0))
step (Expr-F.Xor x at y) = rw (x.1, y.1) (sym (e.rolls-Xor x.0 at y.0))
step (Expr-F.And x at y) = rw (x.1, y.1) (sym (e.rolls-And x.0 at y.0))
step (Expr-F.Eq x at y) = rw (x.1, y.1) (sym (e.rolls-Eq x.0 at y.0))
step (Expr-F.Ne x at y) = rw (x.1, y.1) (sym (e.rolls-Ne x.0 at y.0))
step (Expr-F.Lt x at y) = rw (x.1, y.1) (sym (e.rolls-Lt x.0 at y.0))
step (Expr-F.Le x at y) = rw (x.1, y.1) (sym (e.rolls-Le x.0 at y.0))
step (Expr-F.Gt x at y) = rw (x.1, y.1) (sym (e.rolls-Gt x.0 at y.0))
step (Expr-F.Ge x at y) = rw (x.1, y.1) (sym (e.rolls-Ge x.0 at y.0))
step (Expr-F.Shl x at y) = rw (x.1, y.1) (sym (e.rolls-Shl x.0 at y.0))
step (Expr-F.Shr x at y) = rw (x.1, y.1) (sym (e.rolls-Shr x.0 at y.0))
step (Expr-F.Add x at y) = rw (x.1, y.1) (sym (e.rolls-Add x.0 at y.0))
step (Expr-F.Sub x at y) = rw (x.1, y.1) (sym (e.rolls-Sub x.0 at y.0))
step (Expr-F.Mul x at y) = rw (x.1, y.1) (sym (e.rolls-Mul x.0 at y.0))

pub expr_of-formula : (x : Expr) → expr_of (formula x) ≡ x
expr_of-formula = ind-Expr (λ x. expr_of (formula x) ≡ x) (λ x y is. subst (λ z. expr_of (formula (roll-Expr z)) ≡ roll-Expr z) is (ap expr_of (formula_at (plain y) refl) ∙ step y))

-- two expressions with one formula are one
pub one_expr : (x y : Expr) → formula x ≡ formula y → x ≡ y
one_expr x y is = sym (expr_of-formula x) ∙ ap expr_of is ∙ expr_of-formula y

index_of-index : (i : Option (ℕ × Expr × ℕ)) → index_of (index i) ≡ i
index_of-index None = refl
index_of-index (Some (p, i, q)) = rw expr_of-formula refl

-- a statement for which the block is known to keep all
abbrev StmtKid : Type 0
StmtKid = (x : Stmt) × ((rest : Block) → stmts_of (stmt x rest) ≡ x ∷ stmts_of rest)

abbrev plain_stmt : Stmt-F StmtKid → Stmt-F Stmt
plain_stmt y = map-Stmt StmtKid Stmt (λ x. x.0) y

kids : (xs : List StmtKid) → stmts_of (chained (map stmt (map (λ (x : StmtKid). x.0) xs))) ≡ map (λ (x : StmtKid). x.0) xs
kids [] = refl
kids (x ∷ xs) = x.1 (chained (map stmt (map (λ (y : StmtKid). y.0) xs))) ∙ ap (λ ys. x.0 ∷ ys) (kids xs)

stmt_step : (y : Stmt-F StmtKid) (rest : Block) → stmts_of (block_step (map-Stmt Stmt (Block → Block) stmt (plain_stmt y)) rest) ≡ roll-Stmt (plain_stmt y) ∷ stmts_of rest
stmt_step (Stmt-F.Assign p at x semicolon) rest = rw (index_of-index p.index, expr_of-formula x, s.rolls-Assign p at x semicolon) refl
stmt_step (Stmt-F.Part n dot at semicolon) rest = rw (s.rolls-Part n dot at semicolon) refl
stmt_step (Stmt-F.Halt at p x q semicolon) rest = rw (expr_of-formula x, s.rolls-Halt at p x q semicolon) refl
stmt_step (Stmt-F.If at c t xs None end semicolon) rest = rw (expr_of-formula c, kids xs, s.rolls-If at c t (map (λ (x : StmtKid). x.0) xs) None end semicolon) refl
stmt_step (Stmt-F.If at c t xs (Some (f, ys)) end semicolon) rest = rw (expr_of-formula c, kids xs, kids ys, s.rolls-If at c t (map (λ (x : StmtKid). x.0) xs) (Some (f, map (λ (x : StmtKid). x.0) ys)) end semicolon) refl

pub stmts_of-stmt : (x : Stmt) (rest : Block) → stmts_of (stmt x rest) ≡ x ∷ stmts_of rest
stmts_of-stmt = ind-Stmt (λ x. (rest : Block) → stmts_of (stmt x rest) ≡ x ∷ stmts_of rest) (λ x y is. subst (λ z. (rest : Block) → stmts_of (stmt (roll-Stmt z) rest) ≡ roll-Stmt z ∷ stmts_of rest) is (λ rest. ap stmts_of (stmt_at (plain_stmt y) refl rest) ∙ stmt_step y rest))

pub stmts_of-block : (xs : List Stmt) → stmts_of (block xs) ≡ xs
stmts_of-block [] = refl
stmts_of-block (x ∷ xs) = stmts_of-stmt x (block xs) ∙ ap (λ ys. x ∷ ys) (stmts_of-block xs)

-- two lists of statements with one block are one
pub one_block : (xs ys : List Stmt) → block xs ≡ block ys → xs ≡ ys
one_block xs ys is = sym (stmts_of-block xs) ∙ ap stmts_of is ∙ stmts_of-block ys
