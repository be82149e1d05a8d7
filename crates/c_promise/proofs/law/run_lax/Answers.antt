use Rattle.c_promise.proofs.Lax as lax
use Rattle.c_promise.proofs.law.run_lax.Goals as goal

pub returns : goal.returns
returns c = lax.run_lax
