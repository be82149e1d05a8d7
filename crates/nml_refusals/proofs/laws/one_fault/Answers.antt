use Rattle.nml_refusals.proofs.TreeFaults.{none_checked, one_only}
use Rattle.nml_refusals.proofs.Told.{told}
use Rattle.nml_refusals.proofs.laws.one_fault.Goals as goal

pub returns-clause-one : goal.returns-clause-one
returns-clause-one c = λ d f g h k. one_only d (told d) f g h k

pub returns-clause-none : goal.returns-clause-none
returns-clause-none c = none_checked
