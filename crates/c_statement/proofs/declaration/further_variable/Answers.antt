-- The variable stands behind its comma.
use Rattle.std.proofs.lemmas.Result.{err_from_is_err_and}
use Rattle.readings.proofs.Saying.{both, fails_behind}
use Rattle.c_statement.proofs.declaration.further_variable.Goals as goal

pub returns-in_err-v-clause-says : goal.returns-in_err-v-clause-says
returns-in_err-v-clause-says c =
    let p = err_from_is_err_and c.from_residual-in_err-v.result c.from_residual-in_err-v.ensures.1 in
    rw (p.1, p.2) (fails_behind _ _ _ _ _ _ c.in_ok-comma.ensures.says c.in_err-v.ensures.says)

pub returns-clause-says : goal.returns-clause-says
returns-clause-says c = both _ _ _ _ _ _ _ c.in_ok-comma.ensures.says c.in_ok-v.ensures.says
