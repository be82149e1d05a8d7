use Rattle.nml_refusals.proofs.Told.{some_summary}
use Rattle.nml_refusals.proofs.laws.some_summary.Goals as goal

pub returns : goal.returns
returns c = some_summary
