use Rattle.nml_runs.proofs.OneOutcome.{one_outcome}
use Rattle.nml_runs.proofs.one_outcome.Goals as goal

pub returns : goal.returns
returns c = one_outcome
