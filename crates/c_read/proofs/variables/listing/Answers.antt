-- The values stand one behind the other.
use Rattle.std.proofs.lemmas.Result.{err_from_is_err_and}
use Rattle.readings.proofs.Saying.{both, fails_behind}
use Rattle.c_read.proofs.variables.listing.Goals as goal

pub returns-in_err-others-clause-says : goal.returns-in_err-others-clause-says
returns-in_err-others-clause-says c =
    let p = err_from_is_err_and c.from_residual-in_err-others.result c.from_residual-in_err-others.ensures.1 in
    rw (p.1, p.2) (fails_behind _ _ _ _ _ _ c.in_ok-opening.ensures.says (fails_behind _ _ _ _ _ _ c.in_ok-first.ensures.says c.in_err-others.ensures.says))

pub returns-clause-says : goal.returns-clause-says
returns-clause-says c =
    both _ _ _ _ _ _ _ c.in_ok-opening.ensures.says (both _ _ _ _ _ _ _ c.in_ok-first.ensures.says c.in_ok-others.ensures.says)
