use Rattle.nml_types.proofs.Refusals.{typed_if_none}
use Rattle.nml_types.proofs.law.some_fault.Goals as goal

pub returns : goal.returns
returns c = typed_if_none
