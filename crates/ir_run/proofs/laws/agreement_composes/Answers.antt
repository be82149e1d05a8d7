use Rattle.ir_run.proofs.Agreement.{agree_trans}
use Rattle.ir_run.proofs.laws.agreement_composes.Goals as goal

pub returns : goal.returns
returns c = agree_trans
