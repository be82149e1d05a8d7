use Rattle.c_agree.proofs.Whole.{runs_safely}
use Rattle.c_agree.proofs.law.no_run_breaks_a_promise.Goals as goal

pub returns : goal.returns
returns c = runs_safely
