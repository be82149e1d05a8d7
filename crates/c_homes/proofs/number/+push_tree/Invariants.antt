-- A part has fewer nodes than the tree.
use Rattle.ir_run.specs.Node.{node}
use Rattle.ir_run.specs.Size.{nodes}
use Rattle.c_homes.proofs.number.+push_tree.Given as goal

abbrev pub decreases-push_tree : goal.decreases-push_tree
decreases-push_tree l = nodes (node l.tree.now)
