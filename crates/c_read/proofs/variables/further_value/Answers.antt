-- The value stands behind its comma.
use Rattle.std.proofs.lemmas.Result.{err_from_is_err_and}
use Rattle.readings.proofs.Saying.{both, fails_behind}
use Rattle.c_read.proofs.variables.further_value.Goals as goal

pub returns-in_err-value-clause-says : goal.returns-in_err-value-clause-says
returns-in_err-value-clause-says c =
    let p = err_from_is_err_and c.from_residual-in_err-value.result c.from_residual-in_err-value.ensures.1 in
    rw (p.1, p.2) (fails_behind _ _ _ _ _ _ c.in_ok-comma.ensures.says c.in_err-value.ensures.says)

pub returns-clause-says : goal.returns-clause-says
returns-clause-says c =
    both _ _ _ _ _ _ _ c.in_ok-comma.ensures.says c.in_ok-value.ensures.says
