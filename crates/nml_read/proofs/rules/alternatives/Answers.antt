-- Each stop is the reading's, and what is found is what it finds.
use Rattle.std.proofs.lemmas.Result.{err_from_is_err_and}
use Rattle.readings.proofs.Saying.{both, fails, fails_behind}
use Rattle.nml_read.proofs.rules.alternatives.Goals as goal

pub returns-in_err-first-clause-says : goal.returns-in_err-first-clause-says
returns-in_err-first-clause-says c =
    let p = err_from_is_err_and c.from_residual.result c.from_residual.ensures.1 in
    rw (p.1, p.2) (fails _ _ _ _ c.in_err-first.ensures.says)

pub returns-in_err-others-clause-says : goal.returns-in_err-others-clause-says
returns-in_err-others-clause-says c =
    let p = err_from_is_err_and c.from_residual-in_err-others.result c.from_residual-in_err-others.ensures.1 in
    rw (p.1, p.2) (fails_behind _ _ _ _ _ _ c.in_ok-first.ensures.says c.in_err-others.ensures.says)

pub returns-clause-says : goal.returns-clause-says
returns-clause-says c =
    both _ _ _ _ _ _ _ c.in_ok-first.ensures.says c.in_ok-others.ensures.says
