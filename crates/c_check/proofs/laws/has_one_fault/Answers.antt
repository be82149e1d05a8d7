use Rattle.c_check.proofs.OneFault.{one_fault}
use Rattle.c_check.proofs.laws.has_one_fault.Goals as goal

pub returns : goal.returns
returns c = one_fault
