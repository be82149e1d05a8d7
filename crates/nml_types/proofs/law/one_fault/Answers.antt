use Rattle.nml_types.proofs.Refusals.{one_only, none_typed}
use Rattle.nml_types.proofs.law.one_fault.Goals as goal

pub returns-clause-one : goal.returns-clause-one
returns-clause-one c = one_only

pub returns-clause-none : goal.returns-clause-none
returns-clause-none c = none_typed
