use Rattle.c_count.proofs.Nodes.{FrontCounted}
use Rattle.c_count.proofs.count.count_nodes.Given as goal

abbrev pub invariant-loop-node : goal.invariant-loop-node
invariant-loop-node l = FrontCounted l.nodes l.node-index l.sizes.items
