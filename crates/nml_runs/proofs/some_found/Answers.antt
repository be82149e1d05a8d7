use Rattle.nml_runs.proofs.SomeRun.{some_found}
use Rattle.nml_runs.proofs.some_found.Goals as goal

pub returns : goal.returns
returns c = some_found
