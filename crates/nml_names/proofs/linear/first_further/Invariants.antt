use Rattle.std.proofs.Common.{◌≡◌, drop}
use Rattle.nml_names.specs.Tallies.{first_other, named_linear}
use Rattle.nml_names.specs.Found.{names_in}
use Rattle.nml_names.proofs.linear.first_further.Given as goal

abbrev pub invariant-loop-p : goal.invariant-loop-p
invariant-loop-p l = first_other (named_linear l.n) (names_in (drop l.p-index l.rest)) ≡ first_other (named_linear l.n) (names_in l.rest)
