-- The statements of commands one behind the other.
use Rattle.std.proofs.Common.{◌≡◌, ℕ, ◌≤◌, List, ◌++◌, map}
use Rattle.ir_run.specs.Entry.{entry}
use Rattle.ir_run.specs.declared.statement.Stmt.{Stmt}
use Rattle.c_tree.specs.Program.{Command}
use Rattle.c_tree.specs.Code.{Layout}
use Rattle.c_flat.specs.declared.node.Node.{Node}
use Rattle.c_flat.specs.Sorts.{command_at}
use Rattle.c_emit.specs.declared.spot.Spot.{Spot}
use Rattle.c_emit.specs.Placed.{steps_at}

-- the statements so far, with those to come, are those of all commands
pub record Walks (t : Layout) (nodes : List Node) (s : Spot) (all : Command) (last : ℕ) (here : Spot) (rest : ℕ) (a b : List Stmt) : Type 0 where
  pub below : rest ≤ last
  pub steps : map entry b ++ steps_at t here (command_at nodes rest) ≡ map entry a ++ steps_at t s all
