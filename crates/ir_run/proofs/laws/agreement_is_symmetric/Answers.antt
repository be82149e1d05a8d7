use Rattle.ir_run.proofs.Agreement.{agree_sym}
use Rattle.ir_run.proofs.laws.agreement_is_symmetric.Goals as goal

pub returns : goal.returns
returns c = agree_sym
