-- An expression as definitions see it: a plain tree with the same parts, in which operators of a kind are one case.
use Rattle.std.specs.Prelude.{ℕ, Bool, true, false, Some, None}
use Rattle.nml_tree.specs.declared.names.Name.{Name}
use Rattle.nml_tree.specs.declared.names.Number.{Number}
use Rattle.nml_tree.specs.declared.tree.Size.{Size}
use Rattle.nml_tree.specs.declared.operator.Bin.{Bin}
use Rattle.nml_tree.specs.declared.operator.Bin.TheVariants as bin
use Rattle.nml_tree.specs.declared.expression.Expr.{Expr}
use Rattle.nml_tree.specs.declared.expression.Expr.TheOpen.{Expr-F}
use Rattle.nml_tree.specs.declared.expression.Expr.TheFolds.{fold-Expr}

-- the operators of one operand: `-`, `~`, `!`
pub data Prefix : Type 0 where
  Neg : Prefix
  Inv : Prefix
  Not : Prefix

-- what fits a number into a type: `int(n, e)`, `card(n, e)`, `sat(n, e)`
pub data Fit : Type 0 where
  Int : Fit
  Card : Fit
  Sat : Fit

-- the parts of each case in the order in which they are written; a number ℕ is the place of a keyword or a mark
pub data Formula : Type 0 where
  Numeral : Number → Formula
  Truth : (at : ℕ) → Bool → Formula
  Named : Name → Formula
  Indexed : Name → (opening : ℕ) → Formula → (closing : ℕ) → Formula
  Paren : (opening : ℕ) → Formula → (closing : ℕ) → Formula
  Fitted : Fit → (at opening : ℕ) → Size → (comma : ℕ) → Formula → (closing : ℕ) → Formula
  Bits : (at opening : ℕ) → Formula → (comma : ℕ) → (high : Size) → (second_comma : ℕ) → (low : Size) → (closing : ℕ) → Formula
  Choose : (at : ℕ) → Formula → (then_at : ℕ) → Formula → (else_at : ℕ) → Formula → (end_at : ℕ) → Formula
  Unary : Prefix → (at : ℕ) → Formula → Formula
  Binary : Bin → Formula → (at : ℕ) → Formula → Formula

-- one node of an expression, over the formulas of what stands below it
abbrev pub formula_step : Expr-F Formula → Formula
formula_step (Expr-F.Number n) = Numeral n
formula_step (Expr-F.True at) = Truth at true
formula_step (Expr-F.False at) = Truth at false
formula_step (Expr-F.Name n None) = Named n
formula_step (Expr-F.Name n (Some (p, i, q))) = Indexed n p i q
formula_step (Expr-F.Paren p x q) = Paren p x q
formula_step (Expr-F.Int at p n c x q) = Fitted Int at p n c x q
formula_step (Expr-F.Card at p n c x q) = Fitted Card at p n c x q
formula_step (Expr-F.Sat at p n c x q) = Fitted Sat at p n c x q
formula_step (Expr-F.Bits at p x c high d low q) = Bits at p x c high d low q
formula_step (Expr-F.If at c t x f y end) = Choose at c t x f y end
formula_step (Expr-F.Neg at x) = Unary Neg at x
formula_step (Expr-F.Inv at x) = Unary Inv at x
formula_step (Expr-F.Not at x) = Unary Not at x
formula_step (Expr-F.OrElse x at y) = Binary bin.OrElse x at y
formula_step (Expr-F.AndAlso x at y) = Binary bin.AndAlso x at y
formula_step (Expr-F.Or x at y) = Binary bin.Or x at y
formula_step (Expr-F.Xor x at y) = Binary bin.Xor x at y
formula_step (Expr-F.And x at y) = Binary bin.And x at y
formula_step (Expr-F.Eq x at y) = Binary bin.Eq x at y
formula_step (Expr-F.Ne x at y) = Binary bin.Ne x at y
formula_step (Expr-F.Lt x at y) = Binary bin.Lt x at y
formula_step (Expr-F.Le x at y) = Binary bin.Le x at y
formula_step (Expr-F.Gt x at y) = Binary bin.Gt x at y
formula_step (Expr-F.Ge x at y) = Binary bin.Ge x at y
formula_step (Expr-F.Shl x at y) = Binary bin.Shl x at y
formula_step (Expr-F.Shr x at y) = Binary bin.Shr x at y
formula_step (Expr-F.Add x at y) = Binary bin.Add x at y
formula_step (Expr-F.Sub x at y) = Binary bin.Sub x at y
formula_step (Expr-F.Mul x at y) = Binary bin.Mul x at y

-- the formula of an expression, from its leaves up
unfoldable pub formula : Expr → Formula
formula = fold-Expr Formula formula_step
