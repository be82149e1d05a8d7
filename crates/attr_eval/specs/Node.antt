-- A node of an expression.
use Rattle.std.specs.Prelude.{ℕ, ◌≡◌, ◌<◌}
use Rattle.nml_tree.specs.Formula as formula
use Rattle.nml_tree.specs.Formula.{Formula, Prefix, Fit}
use Rattle.nml_tree.specs.Depth.{depth}
use Rattle.nml_tree.specs.Formula.{formula}
use Rattle.attr_eval.specs.declared.shape.Node.{Node}
use Rattle.attr_eval.specs.declared.shape.Node.TheVariants as node

-- the formula is this node
abbrev pub IsNode : Node → Formula → Type 0
IsNode (node.Numeral k) f = (at : ℕ) × (f ≡ formula.Numeral (record { at = at; value = k }))
IsNode (node.Truth b) f = (at : ℕ) × (f ≡ formula.Truth at b)
IsNode (node.Named n) f = f ≡ formula.Named n.now
IsNode (node.Indexed n i) f = (p : ℕ) × (q : ℕ) × (f ≡ formula.Indexed n.now p (formula i.now) q)
IsNode (node.Paren x) f = (p : ℕ) × (q : ℕ) × (f ≡ formula.Paren p (formula x.now) q)
IsNode (node.Int n x) f = (at : ℕ) × (p : ℕ) × (c : ℕ) × (q : ℕ) × (f ≡ formula.Fitted Fit.Int at p n.now c (formula x.now) q)
IsNode (node.Card n x) f = (at : ℕ) × (p : ℕ) × (c : ℕ) × (q : ℕ) × (f ≡ formula.Fitted Fit.Card at p n.now c (formula x.now) q)
IsNode (node.Sat n x) f = (at : ℕ) × (p : ℕ) × (c : ℕ) × (q : ℕ) × (f ≡ formula.Fitted Fit.Sat at p n.now c (formula x.now) q)
IsNode (node.Bits x hi lo) f = (at : ℕ) × (p : ℕ) × (c : ℕ) × (e : ℕ) × (q : ℕ) × (f ≡ formula.Bits at p (formula x.now) c hi.now e lo.now q)
IsNode (node.Choose c x y) f = (at : ℕ) × (a : ℕ) × (b : ℕ) × (end : ℕ) × (f ≡ formula.Choose at (formula c.now) a (formula x.now) b (formula y.now) end)
IsNode (node.Neg x) f = (at : ℕ) × (f ≡ formula.Unary Prefix.Neg at (formula x.now))
IsNode (node.Inv x) f = (at : ℕ) × (f ≡ formula.Unary Prefix.Inv at (formula x.now))
IsNode (node.Not x) f = (at : ℕ) × (f ≡ formula.Unary Prefix.Not at (formula x.now))
IsNode (node.Binary op x y) f = (at : ℕ) × (f ≡ formula.Binary op (formula x.now) at (formula y.now))

-- what stands below the node is less deep than this
abbrev pub AreLess : Node → ℕ → Type 0
AreLess (node.Numeral k) m = Unit {0}
AreLess (node.Truth b) m = Unit {0}
AreLess (node.Named n) m = 0 < m
AreLess (node.Indexed n i) m = depth (formula i.now) < m
AreLess (node.Paren x) m = depth (formula x.now) < m
AreLess (node.Int n x) m = depth (formula x.now) < m
AreLess (node.Card n x) m = depth (formula x.now) < m
AreLess (node.Sat n x) m = depth (formula x.now) < m
AreLess (node.Bits x hi lo) m = depth (formula x.now) < m
AreLess (node.Choose c x y) m = (depth (formula c.now) < m) × (depth (formula x.now) < m) × (depth (formula y.now) < m)
AreLess (node.Neg x) m = depth (formula x.now) < m
AreLess (node.Inv x) m = depth (formula x.now) < m
AreLess (node.Not x) m = depth (formula x.now) < m
AreLess (node.Binary op x y) m = (depth (formula x.now) < m) × (depth (formula y.now) < m)
