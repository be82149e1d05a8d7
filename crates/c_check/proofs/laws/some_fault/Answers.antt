use Rattle.c_check.proofs.SomeFault.{accepted_if_none}
use Rattle.c_check.proofs.laws.some_fault.Goals as goal

pub returns : goal.returns
returns c = accepted_if_none
