-- A part has fewer nodes than the tree.
use Rattle.ir_run.specs.Node.{node}
use Rattle.ir_run.specs.Size.{nodes}
use Rattle.c_homes.proofs.number.+nodes_of.Given as goal

abbrev pub decreases-nodes_of : goal.decreases-nodes_of
decreases-nodes_of l = nodes (node l.tree.now)
