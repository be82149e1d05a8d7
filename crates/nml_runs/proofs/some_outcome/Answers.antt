use Rattle.nml_runs.proofs.SomeRun.{some_run}
use Rattle.nml_runs.proofs.some_outcome.Goals as goal

pub returns : goal.returns
returns c = some_run
