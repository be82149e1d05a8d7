-- The formula of an expression made of a formula, and the block of statements made of a block.
use Rattle.std.proofs.Common.{◌≡◌, ℕ, true, false, Some, None, refl, ap, ◌∙◌}
use Rattle.nml_tree.specs.declared.operator.Bin.{Bin}
use Rattle.nml_tree.specs.Formula.{Formula, Prefix, Fit, Numeral, Truth, Named, Indexed, Paren, Fitted, Bits, Choose, Unary, Binary, formula}
use Rattle.nml_tree.specs.Block.{Block, Index, Done, Assign, Part, Halt, If, IfElse, index, block}
use Rattle.nml_tree.specs.Inverse.{expr_of, index_of, stmts_of}
use Rattle.nml_tree.proofs.FormulaLaws.{formula-Number, formula-True, formula-False, formula-Name, formula-Name_indexed, formula-Paren, formula-Int, formula-Card, formula-Sat, formula-Bits, formula-If, formula-Neg, formula-Inv, formula-Not, formula-OrElse, formula-AndAlso, formula-Or, formula-Xor, formula-And, formula-Eq, formula-Ne, formula-Lt, formula-Le, formula-Gt, formula-Ge, formula-Shl, formula-Shr, formula-Add, formula-Sub, formula-Mul}
use Rattle.nml_tree.proofs.BlockLaws.{stmt-Assign, stmt-Part, stmt-Halt, stmt-If, stmt-If_else}
use Rattle.nml_tree.specs.declared.operator.Bin.TheVariants as bin

-- two operands
both : (op : Bin) (at : ℕ) (x y : Formula) → formula (expr_of x) ≡ x → formula (expr_of y) ≡ y
    → Binary op (formula (expr_of x)) at (formula (expr_of y)) ≡ Binary op x at y
both op at x y a b = λ i. Binary op (a i) at (b i)

-- an expression keeps all of the formula it is made of
pub formula-expr_of : (x : Formula) → formula (expr_of x) ≡ x
formula-expr_of (Numeral n) = formula-Number n
formula-expr_of (Truth at true) = formula-True at
formula-expr_of (Truth at false) = formula-False at
formula-expr_of (Named n) = formula-Name n
formula-expr_of (Indexed n p i q) = formula-Name_indexed n p (expr_of i) q ∙ ap (λ y. Indexed n p y q) (formula-expr_of i)
formula-expr_of (Paren p x q) = formula-Paren p (expr_of x) q ∙ ap (λ y. Paren p y q) (formula-expr_of x)
formula-expr_of (Fitted Fit.Int at p n c x q) = formula-Int at p n c (expr_of x) q ∙ ap (λ y. Fitted Fit.Int at p n c y q) (formula-expr_of x)
formula-expr_of (Fitted Fit.Card at p n c x q) = formula-Card at p n c (expr_of x) q ∙ ap (λ y. Fitted Fit.Card at p n c y q) (formula-expr_of x)
formula-expr_of (Fitted Fit.Sat at p n c x q) = formula-Sat at p n c (expr_of x) q ∙ ap (λ y. Fitted Fit.Sat at p n c y q) (formula-expr_of x)
formula-expr_of (Bits at p x c high d low q) = formula-Bits at p (expr_of x) c high d low q ∙ ap (λ y. Bits at p y c high d low q) (formula-expr_of x)
formula-expr_of (Choose at c t x f y end) =
    let a = formula-expr_of c in
    let b = formula-expr_of x in
    let d = formula-expr_of y in
    formula-If at (expr_of c) t (expr_of x) f (expr_of y) end ∙ (λ i. Choose at (a i) t (b i) f (d i) end)
formula-expr_of (Unary Prefix.Neg at x) = formula-Neg at (expr_of x) ∙ ap (Unary Prefix.Neg at) (formula-expr_of x)
formula-expr_of (Unary Prefix.Inv at x) = formula-Inv at (expr_of x) ∙ ap (Unary Prefix.Inv at) (formula-expr_of x)
formula-expr_of (Unary Prefix.Not at x) = formula-Not at (expr_of x) ∙ ap (Unary Prefix.Not at) (formula-expr_of x)
formula-expr_of (Binary bin.OrElse x at y) = formula-OrElse (expr_of x) at (expr_of y) ∙ both bin.OrElse at x y (formula-expr_of x) (formula-expr_of y)
formula-expr_of (Binary bin.AndAlso x at y) = formula-AndAlso (expr_of x) at (expr_of y) ∙ both bin.AndAlso at x y (formula-expr_of x) (formula-expr_of y)
formula-expr_of (Binary bin.Or x at y) = formula-Or (expr_of x) at (expr_of y) ∙ both bin.Or at x y (formula-expr_of x) (formula-expr_of y)
formula-expr_of (Binary bin.Xor x at y) = formula-Xor (expr_of x) at (expr_of y) ∙ both bin.Xor at x y (formula-expr_of x) (formula-expr_of y)
formula-expr_of (Binary bin.And x at y) = formula-And (expr_of x) at (expr_of y) ∙ both bin.And at x y (formula-expr_of x) (formula-expr_of y)
formula-expr_of (Binary bin.Eq x at y) = formula-Eq (expr_of x) at (expr_of y) ∙ both bin.Eq at x y (formula-expr_of x) (formula-expr_of y)
formula-expr_of (Binary bin.Ne x at y) = formula-Ne (expr_of x) at (expr_of y) ∙ both bin.Ne at x y (formula-expr_of x) (formula-expr_of y)
formula-expr_of (Binary bin.Lt x at y) = formula-Lt (expr_of x) at (expr_of y) ∙ both bin.Lt at x y (formula-expr_of x) (formula-expr_of y)
formula-expr_of (Binary bin.Le x at y) = formula-Le (expr_of x) at (expr_of y) ∙ both bin.Le at x y (formula-expr_of x) (formula-expr_of y)
formula-expr_of (Binary bin.Gt x at y) = formula-Gt (expr_of x) at (expr_of y) ∙ both bin.Gt at x y (formula-expr_of x) (formula-expr_of y)
formula-expr_of (Binary bin.Ge x at y) = formula-Ge (expr_of x) at (expr_of y) ∙ both bin.Ge at x y (formula-expr_of x) (formula-expr_of y)
formula-expr_of (Binary bin.Shl x at y) = formula-Shl (expr_of x) at (expr_of y) ∙ both bin.Shl at x y (formula-expr_of x) (formula-expr_of y)
formula-expr_of (Binary bin.Shr x at y) = formula-Shr (expr_of x) at (expr_of y) ∙ both bin.Shr at x y (formula-expr_of x) (formula-expr_of y)
formula-expr_of (Binary bin.Add x at y) = formula-Add (expr_of x) at (expr_of y) ∙ both bin.Add at x y (formula-expr_of x) (formula-expr_of y)
formula-expr_of (Binary bin.Sub x at y) = formula-Sub (expr_of x) at (expr_of y) ∙ both bin.Sub at x y (formula-expr_of x) (formula-expr_of y)
formula-expr_of (Binary bin.Mul x at y) = formula-Mul (expr_of x) at (expr_of y) ∙ both bin.Mul at x y (formula-expr_of x) (formula-expr_of y)

-- an index keeps all of what it is made of
index-index_of : (i : Index) → index (index_of i) ≡ i
index-index_of None = refl
index-index_of (Some (p, i, q)) = ap (λ y. Some (p, y, q)) (formula-expr_of i)

-- statements keep all of the block they are made of
pub block-stmts_of : (b : Block) → block (stmts_of b) ≡ b
block-stmts_of Done = refl
block-stmts_of (Assign n i at x semicolon rest) =
    let a = index-index_of i in
    let b = formula-expr_of x in
    let c = block-stmts_of rest in
    stmt-Assign (record { name = n; index = index_of i }) at (expr_of x) semicolon (block (stmts_of rest)) ∙ (λ k. Assign n (a k) at (b k) semicolon (c k))
block-stmts_of (Part n dot at semicolon rest) = stmt-Part n dot at semicolon (block (stmts_of rest)) ∙ ap (Part n dot at semicolon) (block-stmts_of rest)
block-stmts_of (Halt at p x q semicolon rest) =
    let b = formula-expr_of x in
    let c = block-stmts_of rest in
    stmt-Halt at p (expr_of x) q semicolon (block (stmts_of rest)) ∙ (λ k. Halt at p (b k) q semicolon (c k))
block-stmts_of (If at c t xs end semicolon rest) =
    let a = formula-expr_of c in
    let b = block-stmts_of xs in
    let d = block-stmts_of rest in
    stmt-If at (expr_of c) t (stmts_of xs) end semicolon (block (stmts_of rest)) ∙ (λ k. If at (a k) t (b k) end semicolon (d k))
block-stmts_of (IfElse at c t xs f ys end semicolon rest) =
    let a = formula-expr_of c in
    let b = block-stmts_of xs in
    let e = block-stmts_of ys in
    let d = block-stmts_of rest in
    stmt-If_else at (expr_of c) t (stmts_of xs) f (stmts_of ys) end semicolon (block (stmts_of rest)) ∙ (λ k. IfElse at (a k) t (b k) f (e k) end semicolon (d k))
