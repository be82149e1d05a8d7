use Rattle.ir_run.proofs.Agreement.{agree}
use Rattle.ir_run.proofs.laws.agreement_from_one_half.Goals as goal

pub returns : goal.returns
returns c = agree
