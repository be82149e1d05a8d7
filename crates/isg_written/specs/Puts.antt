-- Statements that are put behind those of a list.
use Rattle.std.specs.Prelude.{ℕ, List, length, Option, Some, None}
use Rattle.nml_tree.specs.Act.{Act, followed}
use Rattle.nml_tree.specs.Block.{Block}
use Rattle.nml_tree.specs.Derivation.{Arguments, Derivation}
use Rattle.nml_tree.specs.Table.{Text, Table}
use Rattle.nml_tree.specs.Written.{Scope, act, written}
use Rattle.isg_nodes.specs.declared.node.Node.{Node}
use Rattle.isg_nodes.specs.Grow.{Listed}
use Rattle.isg_nodes.specs.Written.{AllBelow, one_act, statement, term}
use Rattle.isg_written.specs.declared.front.Front.{Front}
use Rattle.isg_written.specs.Stands.{Stands}
use Rattle.isg_written.specs.Apt.{AreRead}
use Rattle.isg_written.specs.Found.{Holds, here, scope}

-- where the list wrote out some statements, it now writes out x behind them
pub record Puts (old new : List Node) (before now : List ℕ) (x : Act → Act) : Type 0 where
  pub each : (a : Act → Act) → Listed old before a → Listed new now (λ rest. a (x rest))

-- the statement of this node is put there
pub record Pushes (old new : List Node) (before now : List ℕ) (x : Node) : Type 0 where
  pub below : AllBelow now (length new)
  pub puts : Puts old new before now (λ rest. one_act x (term old) (statement old) rest)

-- x is put there, where arguments stand in front of which P holds
pub record Adds (f : Front) (P : Scope → Type 0) (old new : List Node) (before now : List ℕ) (x : Scope → Act → Act) : Type 0 where
  pub below : AllBelow now (length new)
  pub puts : (args : Arguments) (ks : List ℕ) → Holds f args ks → P (scope f args) → Puts old new before now (x (scope f args))

-- a block is put there
abbrev pub AddsBlock : Front → List Node → List Node → List ℕ → List ℕ → Block → Type 0
AddsBlock f old new before now b = Adds f (λ s. AreRead (here f) s b) old new before now (λ s. followed (act (here f) s b))

-- the action of a derivation is put there, whichever derivation stands in front
pub record AddsAction (t : Table) (name : Text) (limit n : ℕ) (ps : List ℕ) (old new : List Node) (before now : List ℕ) : Type 0 where
  pub below : AllBelow now (length new)
  pub puts : (d : Derivation) (ks : List ℕ) → Stands t name limit d n ps ks → Puts old new before now (followed (written t n d).action)

-- a list writes out a block alone
pub record Lists (f : Front) (new : List Node) (ns : List ℕ) (b : Block) : Type 0 where
  pub below : AllBelow ns (length new)
  pub is : (args : Arguments) (ks : List ℕ) → Holds f args ks → AreRead (here f) (scope f args) b → Listed new ns (followed (act (here f) (scope f args) b))

-- the statement of a node, or none
abbrev pub set_by : List Node → Option Node → Act → Act
set_by nodes None rest = rest
set_by nodes (Some x) rest = one_act x (term nodes) (statement nodes) rest
