use Rattle.nml_known.proofs.Fronts.{Learned}
use Rattle.nml_known.proofs.names.known_items.Given as goal

abbrev pub invariant-loop-number : goal.invariant-loop-number
invariant-loop-number l = Learned l.items l.known.items l.number
