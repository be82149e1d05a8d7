use Rattle.nml_refusals.proofs.TreeFaults.{checked_if_none}
use Rattle.nml_refusals.proofs.Told.{told}
use Rattle.nml_refusals.proofs.laws.some_fault.Goals as goal

pub returns : goal.returns
returns c = λ d none. checked_if_none d (told d) none
