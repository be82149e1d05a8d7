use Rattle.ir_run.proofs.Agreement.{agree_refl}
use Rattle.ir_run.proofs.laws.agreement_is_reflexive.Goals as goal

pub returns : goal.returns
returns c = agree_refl
