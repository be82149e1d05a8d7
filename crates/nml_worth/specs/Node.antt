-- A node of an expression.
use Rattle.std.specs.Prelude.{ℕ, ◌<◌}
use Rattle.nml_tree.specs.Formula as formula
use Rattle.nml_tree.specs.Formula.{Formula, Prefix, Fit, formula}
use Rattle.nml_tree.specs.Depth.{depth}
use Rattle.nml_worth.specs.declared.node.Prefix as code_prefix
use Rattle.nml_worth.specs.declared.node.Prefix.TheVariants as prefix
use Rattle.nml_worth.specs.declared.node.Fit as code_fit
use Rattle.nml_worth.specs.declared.node.Fit.TheVariants as fit
use Rattle.nml_worth.specs.declared.node.Node.{Node}
use Rattle.nml_worth.specs.declared.node.Node.TheVariants as node

-- an operator of one operand
abbrev pub prefix_of : code_prefix.Prefix → Prefix
prefix_of prefix.Neg = Prefix.Neg
prefix_of prefix.Inv = Prefix.Inv
prefix_of prefix.Not = Prefix.Not

-- what fits a number into a type
abbrev pub fit_of : code_fit.Fit → Fit
fit_of fit.Int = Fit.Int
fit_of fit.Card = Fit.Card
fit_of fit.Sat = Fit.Sat

-- the formula that a node is the top of
abbrev pub whole : Node → Formula
whole (node.Numeral n) = formula.Numeral n
whole (node.Truth at b) = formula.Truth at b
whole (node.Named n) = formula.Named n.now
whole (node.Indexed n p i q) = formula.Indexed n.now p (formula i.now) q
whole (node.Paren p x q) = formula.Paren p (formula x.now) q
whole (node.Fitted f at p n c x q) = formula.Fitted (fit_of f) at p n.now c (formula x.now) q
whole (node.Bits at p x c high d low q) = formula.Bits at p (formula x.now) c high.now d low.now q
whole (node.Choose at c t x f y end) = formula.Choose at (formula c.now) t (formula x.now) f (formula y.now) end
whole (node.Unary op at x) = formula.Unary (prefix_of op) at (formula x.now)
whole (node.Binary op x at y) = formula.Binary op (formula x.now) at (formula y.now)

-- what stands below the node is less deep than this
abbrev pub AreLess : Node → ℕ → Type 0
AreLess (node.Numeral n) m = Unit {0}
AreLess (node.Truth at b) m = Unit {0}
AreLess (node.Named n) m = Unit {0}
AreLess (node.Indexed n p i q) m = depth (formula i.now) < m
AreLess (node.Paren p x q) m = depth (formula x.now) < m
AreLess (node.Fitted f at p n c x q) m = depth (formula x.now) < m
AreLess (node.Bits at p x c high d low q) m = depth (formula x.now) < m
AreLess (node.Choose at c t x f y end) m = (depth (formula c.now) < m) × (depth (formula x.now) < m) × (depth (formula y.now) < m)
AreLess (node.Unary op at x) m = depth (formula x.now) < m
AreLess (node.Binary op x at y) m = (depth (formula x.now) < m) × (depth (formula y.now) < m)
