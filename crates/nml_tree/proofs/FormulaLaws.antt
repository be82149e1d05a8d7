-- The formula of an expression, one node at a time.
use Rattle.std.proofs.Common.{ℕ, true, false, ◌≡◌, sym, ◌∙◌, ap, Some, None}
use Rattle.nml_tree.specs.declared.names.Name.{Name}
use Rattle.nml_tree.specs.declared.names.Number as num
use Rattle.nml_tree.specs.declared.tree.Size.{Size}
use Rattle.nml_tree.specs.declared.operator.Bin.TheVariants as bin
use Rattle.nml_tree.specs.declared.expression.Expr.{Expr}
use Rattle.nml_tree.specs.declared.expression.Expr.TheOpen.{Expr-F}
use Rattle.nml_tree.specs.declared.expression.Expr.TheFolds.{fold-Expr, fold-roll-Expr, map-Expr}
use Rattle.nml_tree.specs.declared.expression.Expr.TheViews.{roll-Expr}
use Rattle.nml_tree.specs.declared.expression.Expr.TheVariants as e
use Rattle.nml_tree.specs.Formula.{Formula, Numeral, Truth, Named, Indexed, Paren, Fitted, Bits, Choose, Unary, Binary, Neg, Inv, Not, Int, Card, Sat, formula, formula_step}

-- any node
pub formula_at : {d : Expr} (l : Expr-F Expr) → roll-Expr l ≡ d → formula d ≡ formula_step (map-Expr Expr Formula formula l)
unfolding formula
formula_at l is = ap (fold-Expr Formula formula_step) (sym is) ∙ fold-roll-Expr Formula formula_step l

-- and each kind of node
pub formula-Number : (n : num.Number) → formula (e.Number n) ≡ Numeral n
formula-Number n = formula_at (Expr-F.Number n) (e.rolls-Number n)

pub formula-True : (at : ℕ) → formula (e.True at) ≡ Truth at true
formula-True at = formula_at (Expr-F.True at) (e.rolls-True at)

pub formula-False : (at : ℕ) → formula (e.False at) ≡ Truth at false
formula-False at = formula_at (Expr-F.False at) (e.rolls-False at)

pub formula-Name : (n : Name) → formula (e.Name n None) ≡ Named n
formula-Name n = formula_at (Expr-F.Name n None) (e.rolls-Name n None)

pub formula-Name_indexed : (n : Name) (p : ℕ) (i : Expr) (q : ℕ) → formula (e.Name n (Some (p, i, q))) ≡ Indexed n p (formula i) q
formula-Name_indexed n p i q = formula_at (Expr-F.Name n (Some (p, i, q))) (e.rolls-Name n (Some (p, i, q)))

pub formula-Paren : (p : ℕ) (x : Expr) (q : ℕ) → formula (e.Paren p x q) ≡ Paren p (formula x) q
formula-Paren p x q = formula_at (Expr-F.Paren p x q) (e.rolls-Paren p x q)

pub formula-Int : (at p : ℕ) (n : Size) (c : ℕ) (x : Expr) (q : ℕ) → formula (e.Int at p n c x q) ≡ Fitted Int at p n c (formula x) q
formula-Int at p n c x q = formula_at (Expr-F.Int at p n c x q) (e.rolls-Int at p n c x q)

pub formula-Card : (at p : ℕ) (n : Size) (c : ℕ) (x : Expr) (q : ℕ) → formula (e.Card at p n c x q) ≡ Fitted Card at p n c (formula x) q
formula-Card at p n c x q = formula_at (Expr-F.Card at p n c x q) (e.rolls-Card at p n c x q)

pub formula-Sat : (at p : ℕ) (n : Size) (c : ℕ) (x : Expr) (q : ℕ) → formula (e.Sat at p n c x q) ≡ Fitted Sat at p n c (formula x) q
formula-Sat at p n c x q = formula_at (Expr-F.Sat at p n c x q) (e.rolls-Sat at p n c x q)

pub formula-Bits : (at p : ℕ) (x : Expr) (c : ℕ) (high : Size) (d : ℕ) (low : Size) (q : ℕ) → formula (e.Bits at p x c high d low q) ≡ Bits at p (formula x) c high d low q
formula-Bits at p x c high d low q = formula_at (Expr-F.Bits at p x c high d low q) (e.rolls-Bits at p x c high d low q)

pub formula-If : (at : ℕ) (c : Expr) (t : ℕ) (x : Expr) (f : ℕ) (y : Expr) (end : ℕ) → formula (e.If at c t x f y end) ≡ Choose at (formula c) t (formula x) f (formula y) end
formula-If at c t x f y end = formula_at (Expr-F.If at c t x f y end) (e.rolls-If at c t x f y end)

pub formula-Neg : (at : ℕ) (x : Expr) → formula (e.Neg at x) ≡ Unary Neg at (formula x)
formula-Neg at x = formula_at (Expr-F.Neg at x) (e.rolls-Neg at x)

pub formula-Inv : (at : ℕ) (x : Expr) → formula (e.Inv at x) ≡ Unary Inv at (formula x)
formula-Inv at x = formula_at (Expr-F.Inv at x) (e.rolls-Inv at x)

pub formula-Not : (at : ℕ) (x : Expr) → formula (e.Not at x) ≡ Unary Not at (formula x)
formula-Not at x = formula_at (Expr-F.Not at x) (e.rolls-Not at x)

pub formula-OrElse : (x : Expr) (at : ℕ) (y : Expr) → formula (e.OrElse x at y) ≡ Binary bin.OrElse (formula x) at (formula y)
formula-OrElse x at y = formula_at (Expr-F.OrElse x at y) (e.rolls-OrElse x at y)

pub formula-AndAlso : (x : Expr) (at : ℕ) (y : Expr) → formula (e.AndAlso x at y) ≡ Binary bin.AndAlso (formula x) at (formula y)
formula-AndAlso x at y = formula_at (Expr-F.AndAlso x at y) (e.rolls-AndAlso x at y)

pub formula-Or : (x : Expr) (at : ℕ) (y : Expr) → formula (e.Or x at y) ≡ Binary bin.Or (formula x) at (formula y)
formula-Or x at y = formula_at (Expr-F.Or x at y) (e.rolls-Or x at y)

pub formula-Xor : (x : Expr) (at : ℕ) (y : Expr) → formula (e.Xor x at y) ≡ Binary bin.Xor (formula x) at (formula y)
formula-Xor x at y = formula_at (Expr-F.Xor x at y) (e.rolls-Xor x at y)

pub formula-And : (x : Expr) (at : ℕ) (y : Expr) → formula (e.And x at y) ≡ Binary bin.And (formula x) at (formula y)
formula-And x at y = formula_at (Expr-F.And x at y) (e.rolls-And x at y)

pub formula-Eq : (x : Expr) (at : ℕ) (y : Expr) → formula (e.Eq x at y) ≡ Binary bin.Eq (formula x) at (formula y)
formula-Eq x at y = formula_at (Expr-F.Eq x at y) (e.rolls-Eq x at y)

pub formula-Ne : (x : Expr) (at : ℕ) (y : Expr) → formula (e.Ne x at y) ≡ Binary bin.Ne (formula x) at (formula y)
formula-Ne x at y = formula_at (Expr-F.Ne x at y) (e.rolls-Ne x at y)

pub formula-Lt : (x : Expr) (at : ℕ) (y : Expr) → formula (e.Lt x at y) ≡ Binary bin.Lt (formula x) at (formula y)
formula-Lt x at y = formula_at (Expr-F.Lt x at y) (e.rolls-Lt x at y)

pub formula-Le : (x : Expr) (at : ℕ) (y : Expr) → formula (e.Le x at y) ≡ Binary bin.Le (formula x) at (formula y)
formula-Le x at y = formula_at (Expr-F.Le x at y) (e.rolls-Le x at y)

pub formula-Gt : (x : Expr) (at : ℕ) (y : Expr) → formula (e.Gt x at y) ≡ Binary bin.Gt (formula x) at (formula y)
formula-Gt x at y = formula_at (Expr-F.Gt x at y) (e.rolls-Gt x at y)

pub formula-Ge : (x : Expr) (at : ℕ) (y : Expr) → formula (e.Ge x at y) ≡ Binary bin.Ge (formula x) at (formula y)
formula-Ge x at y = formula_at (Expr-F.Ge x at y) (e.rolls-Ge x at y)

pub formula-Shl : (x : Expr) (at : ℕ) (y : Expr) → formula (e.Shl x at y) ≡ Binary bin.Shl (formula x) at (formula y)
formula-Shl x at y = formula_at (Expr-F.Shl x at y) (e.rolls-Shl x at y)

pub formula-Shr : (x : Expr) (at : ℕ) (y : Expr) → formula (e.Shr x at y) ≡ Binary bin.Shr (formula x) at (formula y)
formula-Shr x at y = formula_at (Expr-F.Shr x at y) (e.rolls-Shr x at y)

pub formula-Add : (x : Expr) (at : ℕ) (y : Expr) → formula (e.Add x at y) ≡ Binary bin.Add (formula x) at (formula y)
formula-Add x at y = formula_at (Expr-F.Add x at y) (e.rolls-Add x at y)

pub formula-Sub : (x : Expr) (at : ℕ) (y : Expr) → formula (e.Sub x at y) ≡ Binary bin.Sub (formula x) at (formula y)
formula-Sub x at y = formula_at (Expr-F.Sub x at y) (e.rolls-Sub x at y)

pub formula-Mul : (x : Expr) (at : ℕ) (y : Expr) → formula (e.Mul x at y) ≡ Binary bin.Mul (formula x) at (formula y)
formula-Mul x at y = formula_at (Expr-F.Mul x at y) (e.rolls-Mul x at y)

pub ruleset formula_laws = (formula-Number, formula-True, formula-False, formula-Name, formula-Name_indexed, formula-Paren, formula-Int, formula-Card, formula-Sat, formula-Bits, formula-If, formula-Neg, formula-Inv, formula-Not, formula-OrElse, formula-AndAlso, formula-Or, formula-Xor, formula-And, formula-Eq, formula-Ne, formula-Lt, formula-Le, formula-Gt, formula-Ge, formula-Shl, formula-Shr, formula-Add, formula-Sub, formula-Mul)
