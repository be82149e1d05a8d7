use Rattle.nml_suite.proofs.OneWork.{one_work}
use Rattle.nml_suite.proofs.law.one_work.Goals as goal

pub returns : goal.returns
returns c = one_work
