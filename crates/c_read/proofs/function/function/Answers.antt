-- The parameters, and the block behind them.
use Rattle.std.proofs.lemmas.Result.{err_from_is_err_and}
use Rattle.readings.proofs.Saying.{both, fails_behind, fails_made, makes}
use Rattle.c_read.proofs.function.function.Goals as goal

pub returns-in_err-body-clause-says : goal.returns-in_err-body-clause-says
returns-in_err-body-clause-says c =
    let p = err_from_is_err_and c.from_residual-in_err-body.result c.from_residual-in_err-body.ensures.1 in
    rw (p.1, p.2) (fails_made _ _ _ _ (fails_behind _ _ _ _ _ _ c.in_ok-params.ensures.says c.in_err-body.ensures.says))

pub returns-clause-says : goal.returns-clause-says
returns-clause-says c =
    makes _ _ _ _ _ (both _ _ _ _ _ _ _ c.in_ok-params.ensures.says c.in_ok-body.ensures.says)
