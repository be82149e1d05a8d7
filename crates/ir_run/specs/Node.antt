-- A tree as definitions see it: its root over the trees below, in which operators of a kind are one case.
use Rattle.std.specs.Prelude.{ℕ, ℤ}
use Rattle.ir_core.specs.declared.operator.Prefix.{Prefix}
use Rattle.ir_core.specs.declared.operator.Prefix.TheVariants as prefix
use Rattle.ir_core.specs.declared.operator.Shift.{Shift}
use Rattle.ir_core.specs.declared.operator.Shift.TheVariants as shift
use Rattle.ir_core.specs.declared.operator.Arith.{Arith}
use Rattle.ir_core.specs.declared.operator.Arith.TheVariants as arith
use Rattle.ir_run.specs.declared.tree.Tree.{Tree}
use Rattle.ir_run.specs.declared.tree.Tree.TheOpen.{Tree-F}
use Rattle.ir_run.specs.declared.tree.Tree.TheFolds.{fold-Tree}

pub data Node : Type 0 where
  Const : ℤ → Node  -- a number
  Base : ℕ → Node  -- an array's first cell, as a number
  Label : ℕ → Node  -- a label
  Cell : ℕ → Node  -- what a cell holds
  In : Node  -- the next input
  Load : Node → Node  -- what the cell holds whose number the tree is worth
  Unary : Prefix → Node → Node
  Shifted : Shift → Node → (by : ℕ) → Node
  Binary : Arith → Node → Node → Node

abbrev pub node_step : Tree-F Node → Node
node_step (Tree-F.Const z) = Const z
node_step (Tree-F.Base c) = Base c
node_step (Tree-F.Label l) = Label l
node_step (Tree-F.Cell k) = Cell k
node_step Tree-F.In = In
node_step (Tree-F.Load t) = Load t
node_step (Tree-F.Neg t) = Unary prefix.Neg t
node_step (Tree-F.Not t) = Unary prefix.Not t
node_step (Tree-F.Shl t k) = Shifted shift.Shl t k
node_step (Tree-F.Shr t k) = Shifted shift.Shr t k
node_step (Tree-F.Add t u) = Binary arith.Add t u
node_step (Tree-F.Sub t u) = Binary arith.Sub t u
node_step (Tree-F.Mul t u) = Binary arith.Mul t u
node_step (Tree-F.And t u) = Binary arith.And t u
node_step (Tree-F.Or t u) = Binary arith.Or t u
node_step (Tree-F.Xor t u) = Binary arith.Xor t u

-- the root of a tree, from its leaves up
unfoldable pub node : Tree → Node
node = fold-Tree Node node_step
