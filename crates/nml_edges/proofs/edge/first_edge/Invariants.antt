use Rattle.nml_edges.proofs.Faults.{NoneBefore}
use Rattle.nml_edges.proofs.edge.first_edge.Given as goal

-- no item so far is at fault
abbrev pub invariant-loop-number : goal.invariant-loop-number
invariant-loop-number l = NoneBefore l.names l.facts.items l.number
