-- The parameter stands behind its comma.
use Rattle.std.proofs.lemmas.Result.{err_from_is_err_and}
use Rattle.readings.proofs.Saying.{fails_behind}
use Rattle.c_read.proofs.function.further_parameter.Goals as goal

pub returns-in_err-param-clause-says : goal.returns-in_err-param-clause-says
returns-in_err-param-clause-says c =
    let p = err_from_is_err_and c.from_residual-in_err-param.result c.from_residual-in_err-param.ensures.1 in
    rw (p.1, p.2) (fails_behind _ _ _ _ _ _ c.in_ok-comma.ensures.says c.in_err-param.ensures.says)
