use Rattle.nml_suite.proofs.SomeWork.{some_work}
use Rattle.nml_suite.proofs.law.some_work.Goals as goal

pub returns : goal.returns
returns c = some_work
