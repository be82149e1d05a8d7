-- The steps of arguments, one argument after the other.
use Rattle.std.proofs.Common.{◌≡◌, ◌≤◌, ℕ, Bool, List, ◌++◌, map}
use Rattle.ir_run.specs.Entry.{entry}
use Rattle.ir_run.specs.declared.statement.Stmt.{Stmt}
use Rattle.c_tree.specs.Code.{Layout, passing}
use Rattle.c_flat.specs.declared.node.Node.{Node}
use Rattle.c_flat.specs.Sorts.{terms_at}

-- what stands behind the old statements, with the steps to come, is that of all arguments
pub record Walks (t : Layout) (nodes : List Node) (later : Bool) (xs rest k l cell label : ℕ) (a b : List Stmt) (values : List ℕ) : Type 0 where
  pub below : rest ≤ xs
  pub steps : map entry b ++ (passing t cell label later (terms_at nodes rest)).steps ≡ map entry a ++ (passing t k l later (terms_at nodes xs)).steps
  pub cells_are : values ++ (passing t cell label later (terms_at nodes rest)).values ≡ (passing t k l later (terms_at nodes xs)).values
