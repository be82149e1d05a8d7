-- Each stop is the reading's, and what is found is what it finds.
use Rattle.std.proofs.lemmas.Result.{err_from_is_err_and}
use Rattle.readings.proofs.Saying.{both, fails, fails_behind}
use Rattle.nml_read.proofs.types.two_sizes.Goals as goal

pub returns-in_err-first-clause-says : goal.returns-in_err-first-clause-says
returns-in_err-first-clause-says c =
    let p = err_from_is_err_and c.from_residual-in_err-first.result c.from_residual-in_err-first.ensures.1 in
    rw (p.1, p.2) (fails_behind _ _ _ _ _ _ c.in_ok-opening.ensures.says (fails _ _ _ _ c.in_err-first.ensures.says))

pub returns-in_err-comma-clause-says : goal.returns-in_err-comma-clause-says
returns-in_err-comma-clause-says c =
    let p = err_from_is_err_and c.from_residual-in_err-comma.result c.from_residual-in_err-comma.ensures.1 in
    rw (p.1, p.2) (fails_behind _ _ _ _ _ _ c.in_ok-opening.ensures.says (fails_behind _ _ _ _ _ _ c.in_ok-first.ensures.says (fails _ _ _ _ c.in_err-comma.ensures.says)))

pub returns-in_err-second-clause-says : goal.returns-in_err-second-clause-says
returns-in_err-second-clause-says c =
    let p = err_from_is_err_and c.from_residual-in_err-second.result c.from_residual-in_err-second.ensures.1 in
    rw (p.1, p.2) (fails_behind _ _ _ _ _ _ c.in_ok-opening.ensures.says (fails_behind _ _ _ _ _ _ c.in_ok-first.ensures.says (fails_behind _ _ _ _ _ _ c.in_ok-comma.ensures.says (fails _ _ _ _ c.in_err-second.ensures.says))))

pub returns-in_err-closing-clause-says : goal.returns-in_err-closing-clause-says
returns-in_err-closing-clause-says c =
    let p = err_from_is_err_and c.from_residual-in_err-closing.result c.from_residual-in_err-closing.ensures.1 in
    rw (p.1, p.2) (fails_behind _ _ _ _ _ _ c.in_ok-opening.ensures.says (fails_behind _ _ _ _ _ _ c.in_ok-first.ensures.says (fails_behind _ _ _ _ _ _ c.in_ok-comma.ensures.says (fails_behind _ _ _ _ _ _ c.in_ok-second.ensures.says c.in_err-closing.ensures.says))))

pub returns-clause-says : goal.returns-clause-says
returns-clause-says c =
    both _ _ _ _ _ _ _ c.in_ok-opening.ensures.says (both _ _ _ _ _ _ _ c.in_ok-first.ensures.says (both _ _ _ _ _ _ _ c.in_ok-comma.ensures.says (both _ _ _ _ _ _ _ c.in_ok-second.ensures.says c.in_ok-closing.ensures.says)))
