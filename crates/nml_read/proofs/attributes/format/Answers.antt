-- Each stop is the reading's, and what is found is what it finds.
use Rattle.std.proofs.lemmas.Result.{err_from_is_err_and}
use Rattle.readings.proofs.Saying.{both, fails, fails_behind, fails_made, makes}
use Rattle.nml_read.proofs.attributes.format.Goals as goal

pub returns-in_err-opening-clause-says : goal.returns-in_err-opening-clause-says
returns-in_err-opening-clause-says c =
    let p = err_from_is_err_and c.from_residual.result c.from_residual.ensures.1 in
    rw (p.1, p.2) (fails_made _ _ _ _ (fails _ _ _ _ c.in_err-opening.ensures.says))

pub returns-in_err-text-clause-says : goal.returns-in_err-text-clause-says
returns-in_err-text-clause-says c =
    let p = err_from_is_err_and c.from_residual-in_err-text.result c.from_residual-in_err-text.ensures.1 in
    rw (p.1, p.2) (fails_made _ _ _ _ (fails_behind _ _ _ _ _ _ c.in_ok-opening.ensures.says (fails _ _ _ _ c.in_err-text.ensures.says)))

pub returns-in_err-arguments-clause-says : goal.returns-in_err-arguments-clause-says
returns-in_err-arguments-clause-says c =
    let p = err_from_is_err_and c.from_residual-in_err-arguments.result c.from_residual-in_err-arguments.ensures.1 in
    rw (p.1, p.2) (fails_made _ _ _ _ (fails_behind _ _ _ _ _ _ c.in_ok-opening.ensures.says (fails_behind _ _ _ _ _ _ c.in_ok-text.ensures.says (fails _ _ _ _ c.in_err-arguments.ensures.says))))

pub returns-in_err-closing-clause-says : goal.returns-in_err-closing-clause-says
returns-in_err-closing-clause-says c =
    let p = err_from_is_err_and c.from_residual-in_err-closing.result c.from_residual-in_err-closing.ensures.1 in
    rw (p.1, p.2) (fails_made _ _ _ _ (fails_behind _ _ _ _ _ _ c.in_ok-opening.ensures.says (fails_behind _ _ _ _ _ _ c.in_ok-text.ensures.says (fails_behind _ _ _ _ _ _ c.in_ok-arguments.ensures.says c.in_err-closing.ensures.says))))

pub returns-clause-says : goal.returns-clause-says
returns-clause-says c =
    makes _ _ _ _ _ (both _ _ _ _ _ _ _ c.in_ok-opening.ensures.says (both _ _ _ _ _ _ _ c.in_ok-text.ensures.says (both _ _ _ _ _ _ _ c.in_ok-arguments.ensures.says c.in_ok-closing.ensures.says)))
