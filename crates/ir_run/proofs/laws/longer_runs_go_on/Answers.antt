use Rattle.ir_run.proofs.Agreement.{outcomes_grow}
use Rattle.ir_run.proofs.laws.longer_runs_go_on.Goals as goal

pub returns : goal.returns
returns c = outcomes_grow
