use Rattle.nml_names.proofs.Linears.{NoneBefore}
use Rattle.nml_names.proofs.linear.first_unlinear.Given as goal

-- no rule so far has a parameter at fault
abbrev pub invariant-loop-number : goal.invariant-loop-number
invariant-loop-number l = NoneBefore l.d l.number
