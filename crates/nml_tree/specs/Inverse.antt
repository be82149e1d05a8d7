-- The expression of a formula, and the statements of a block.
use Rattle.std.specs.Prelude.{ℕ, true, false, List, [], ◌∷◌, Option, Some, None}
use Rattle.nml_tree.specs.declared.operator.Bin.TheVariants as bin
use Rattle.nml_tree.specs.declared.expression.Expr.{Expr}
use Rattle.nml_tree.specs.declared.expression.Expr.TheVariants as e
use Rattle.nml_tree.specs.declared.statement.Stmt.{Stmt}
use Rattle.nml_tree.specs.declared.statement.Stmt.TheVariants as s
use Rattle.nml_tree.specs.Formula.{Formula, Prefix, Fit, Numeral, Truth, Named, Indexed, Paren, Fitted, Bits, Choose, Unary, Binary}
use Rattle.nml_tree.specs.Block.{Block, Index, Done, Assign, Part, Halt, If, IfElse}

-- the expression of a formula
abbrev pub expr_of : Formula → Expr
expr_of (Numeral n) = e.Number n
expr_of (Truth at true) = e.True at
expr_of (Truth at false) = e.False at
expr_of (Named n) = e.Name n None
expr_of (Indexed n p i q) = e.Name n (Some (p, expr_of i, q))
expr_of (Paren p x q) = e.Paren p (expr_of x) q
expr_of (Fitted Fit.Int at p n c x q) = e.Int at p n c (expr_of x) q
expr_of (Fitted Fit.Card at p n c x q) = e.Card at p n c (expr_of x) q
expr_of (Fitted Fit.Sat at p n c x q) = e.Sat at p n c (expr_of x) q
expr_of (Bits at p x c high d low q) = e.Bits at p (expr_of x) c high d low q
expr_of (Choose at c t x f y end) = e.If at (expr_of c) t (expr_of x) f (expr_of y) end
expr_of (Unary Prefix.Neg at x) = e.Neg at (expr_of x)
expr_of (Unary Prefix.Inv at x) = e.Inv at (expr_of x)
expr_of (Unary Prefix.Not at x) = e.Not at (expr_of x)
expr_of (Binary bin.OrElse x at y) = e.OrElse (expr_of x) at (expr_of y)
expr_of (Binary bin.AndAlso x at y) = e.AndAlso (expr_of x) at (expr_of y)
expr_of (Binary bin.Or x at y) = e.Or (expr_of x) at (expr_of y)
expr_of (Binary bin.Xor x at y) = e.Xor (expr_of x) at (expr_of y)
expr_of (Binary bin.And x at y) = e.And (expr_of x) at (expr_of y)
expr_of (Binary bin.Eq x at y) = e.Eq (expr_of x) at (expr_of y)
expr_of (Binary bin.Ne x at y) = e.Ne (expr_of x) at (expr_of y)
expr_of (Binary bin.Lt x at y) = e.Lt (expr_of x) at (expr_of y)
expr_of (Binary bin.Le x at y) = e.Le (expr_of x) at (expr_of y)
expr_of (Binary bin.Gt x at y) = e.Gt (expr_of x) at (expr_of y)
expr_of (Binary bin.Ge x at y) = e.Ge (expr_of x) at (expr_of y)
expr_of (Binary bin.Shl x at y) = e.Shl (expr_of x) at (expr_of y)
expr_of (Binary bin.Shr x at y) = e.Shr (expr_of x) at (expr_of y)
expr_of (Binary bin.Add x at y) = e.Add (expr_of x) at (expr_of y)
expr_of (Binary bin.Sub x at y) = e.Sub (expr_of x) at (expr_of y)
expr_of (Binary bin.Mul x at y) = e.Mul (expr_of x) at (expr_of y)

-- the index between its brackets
abbrev pub index_of : Index → Option (ℕ × Expr × ℕ)
index_of None = None
index_of (Some (p, i, q)) = Some (p, expr_of i, q)

-- the statements of a block
abbrev pub stmts_of : Block → List Stmt
stmts_of Done = []
stmts_of (Assign n i at x semicolon rest) = s.Assign (record { name = n; index = index_of i }) at (expr_of x) semicolon ∷ stmts_of rest
stmts_of (Part n dot at semicolon rest) = s.Part n dot at semicolon ∷ stmts_of rest
stmts_of (Halt at p x q semicolon rest) = s.Halt at p (expr_of x) q semicolon ∷ stmts_of rest
stmts_of (If at c t xs end semicolon rest) = s.If at (expr_of c) t (stmts_of xs) None end semicolon ∷ stmts_of rest
stmts_of (IfElse at c t xs f ys end semicolon rest) = s.If at (expr_of c) t (stmts_of xs) (Some (f, stmts_of ys)) end semicolon ∷ stmts_of rest
