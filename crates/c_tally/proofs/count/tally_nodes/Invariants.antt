use Rattle.c_tally.proofs.Nodes.{FrontTallied}
use Rattle.c_tally.proofs.count.tally_nodes.Given as goal

abbrev pub invariant-loop-node : goal.invariant-loop-node
invariant-loop-node l = FrontTallied l.nodes l.node-index l.tallies.items
