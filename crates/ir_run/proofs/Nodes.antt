-- The node of a tree, one variant at a time.
use Rattle.std.proofs.Common.{ℕ, ℤ, ◌≡◌, sym, ◌∙◌, ap}
use Rattle.ir_core.specs.declared.operator.Prefix.TheVariants as prefix
use Rattle.ir_core.specs.declared.operator.Shift.TheVariants as shift
use Rattle.ir_core.specs.declared.operator.Arith.TheVariants as arith
use Rattle.ir_run.specs.declared.tree.Tree.{Tree}
use Rattle.ir_run.specs.declared.tree.Tree.TheOpen.{Tree-F}
use Rattle.ir_run.specs.declared.tree.Tree.TheFolds.{fold-Tree, fold-roll-Tree, map-Tree}
use Rattle.ir_run.specs.declared.tree.Tree.TheViews.{roll-Tree}
use Rattle.ir_run.specs.declared.tree.Tree.TheVariants as e
use Rattle.ir_run.specs.Node.{Node, Const, Base, Label, Cell, In, Load, Unary, Shifted, Binary, node, node_step}

-- any node
pub node_at : {d : Tree} (l : Tree-F Tree) → roll-Tree l ≡ d → node d ≡ node_step (map-Tree Tree Node node l)
unfolding node
node_at l is = ap (fold-Tree Node node_step) (sym is) ∙ fold-roll-Tree Node node_step l

-- and each kind of node
pub node-Const : (z : ℤ) → node (e.Const z) ≡ Const z
node-Const z = node_at (Tree-F.Const z) (e.rolls-Const z)

pub node-Base : (c : ℕ) → node (e.Base c) ≡ Base c
node-Base c = node_at (Tree-F.Base c) (e.rolls-Base c)

pub node-Label : (l : ℕ) → node (e.Label l) ≡ Label l
node-Label l = node_at (Tree-F.Label l) (e.rolls-Label l)

pub node-Cell : (k : ℕ) → node (e.Cell k) ≡ Cell k
node-Cell k = node_at (Tree-F.Cell k) (e.rolls-Cell k)

pub node-In : node e.In ≡ In
node-In = node_at Tree-F.In e.rolls-In

pub node-Load : (t : Tree) → node (e.Load t) ≡ Load (node t)
node-Load t = node_at (Tree-F.Load t) (e.rolls-Load t)

pub node-Neg : (t : Tree) → node (e.Neg t) ≡ Unary prefix.Neg (node t)
node-Neg t = node_at (Tree-F.Neg t) (e.rolls-Neg t)

pub node-Not : (t : Tree) → node (e.Not t) ≡ Unary prefix.Not (node t)
node-Not t = node_at (Tree-F.Not t) (e.rolls-Not t)

pub node-Shl : (t : Tree) (k : ℕ) → node (e.Shl t k) ≡ Shifted shift.Shl (node t) k
node-Shl t k = node_at (Tree-F.Shl t k) (e.rolls-Shl t k)

pub node-Shr : (t : Tree) (k : ℕ) → node (e.Shr t k) ≡ Shifted shift.Shr (node t) k
node-Shr t k = node_at (Tree-F.Shr t k) (e.rolls-Shr t k)

pub node-Add : (t u : Tree) → node (e.Add t u) ≡ Binary arith.Add (node t) (node u)
node-Add t u = node_at (Tree-F.Add t u) (e.rolls-Add t u)

pub node-Sub : (t u : Tree) → node (e.Sub t u) ≡ Binary arith.Sub (node t) (node u)
node-Sub t u = node_at (Tree-F.Sub t u) (e.rolls-Sub t u)

pub node-Mul : (t u : Tree) → node (e.Mul t u) ≡ Binary arith.Mul (node t) (node u)
node-Mul t u = node_at (Tree-F.Mul t u) (e.rolls-Mul t u)

pub node-And : (t u : Tree) → node (e.And t u) ≡ Binary arith.And (node t) (node u)
node-And t u = node_at (Tree-F.And t u) (e.rolls-And t u)

pub node-Or : (t u : Tree) → node (e.Or t u) ≡ Binary arith.Or (node t) (node u)
node-Or t u = node_at (Tree-F.Or t u) (e.rolls-Or t u)

pub node-Xor : (t u : Tree) → node (e.Xor t u) ≡ Binary arith.Xor (node t) (node u)
node-Xor t u = node_at (Tree-F.Xor t u) (e.rolls-Xor t u)

pub ruleset node_laws = (node-Const, node-Base, node-Label, node-Cell, node-In, node-Load, node-Neg, node-Not, node-Shl, node-Shr, node-Add, node-Sub, node-Mul, node-And, node-Or, node-Xor)
