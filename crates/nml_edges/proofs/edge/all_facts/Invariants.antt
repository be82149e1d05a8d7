use Rattle.nml_edges.proofs.Faults.{Passed}
use Rattle.nml_edges.proofs.edge.all_facts.Given as goal

-- what stands before this place in the order has its summary
abbrev pub invariant-loop-p : goal.invariant-loop-p
invariant-loop-p l = Passed l.names l.order l.facts.items l.p
