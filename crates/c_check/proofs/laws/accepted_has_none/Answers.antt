use Rattle.c_check.proofs.OneFault.{no_fault}
use Rattle.c_check.proofs.laws.accepted_has_none.Goals as goal

pub returns : goal.returns
returns c = no_fault
