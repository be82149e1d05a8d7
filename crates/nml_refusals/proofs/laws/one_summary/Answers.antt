use Rattle.nml_refusals.proofs.Summaries.{one_summary}
use Rattle.nml_refusals.proofs.laws.one_summary.Goals as goal

pub returns : goal.returns
returns c = one_summary
