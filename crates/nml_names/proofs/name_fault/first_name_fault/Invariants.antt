use Rattle.nml_names.proofs.Turns.{Looked}
use Rattle.nml_names.proofs.name_fault.first_name_fault.Given as goal

-- what is known of the items so far
abbrev pub invariant-loop-number : goal.invariant-loop-number
invariant-loop-number l = Looked l.d l.number l.found l.inp l.out
