-- Each stop is the reading's, and what is found is what it finds.
use Rattle.std.proofs.lemmas.Result.{err_from_is_err_and}
use Rattle.readings.proofs.Saying.{both, fails, fails_behind, fails_made, makes}
use Rattle.nml_read.proofs.rules.mode_rule.Goals as goal

pub returns-in_err-opening-clause-says : goal.returns-in_err-opening-clause-says
returns-in_err-opening-clause-says c =
    let p = err_from_is_err_and c.from_residual.result c.from_residual.ensures.1 in
    rw (p.1, p.2) (fails_made _ _ _ _ (fails _ _ _ _ c.in_err-opening.ensures.says))

pub returns-in_err-pars-clause-says : goal.returns-in_err-pars-clause-says
returns-in_err-pars-clause-says c =
    let p = err_from_is_err_and c.from_residual-in_err-pars.result c.from_residual-in_err-pars.ensures.1 in
    rw (p.1, p.2) (fails_made _ _ _ _ (fails_behind _ _ _ _ _ _ c.in_ok-opening.ensures.says (fails _ _ _ _ c.in_err-pars.ensures.says)))

pub returns-in_err-closing-clause-says : goal.returns-in_err-closing-clause-says
returns-in_err-closing-clause-says c =
    let p = err_from_is_err_and c.from_residual-in_err-closing.result c.from_residual-in_err-closing.ensures.1 in
    rw (p.1, p.2) (fails_made _ _ _ _ (fails_behind _ _ _ _ _ _ c.in_ok-opening.ensures.says (fails_behind _ _ _ _ _ _ c.in_ok-pars.ensures.says (fails _ _ _ _ c.in_err-closing.ensures.says))))

pub returns-in_err-equals-clause-says : goal.returns-in_err-equals-clause-says
returns-in_err-equals-clause-says c =
    let p = err_from_is_err_and c.from_residual-in_err-equals.result c.from_residual-in_err-equals.ensures.1 in
    rw (p.1, p.2) (fails_made _ _ _ _ (fails_behind _ _ _ _ _ _ c.in_ok-opening.ensures.says (fails_behind _ _ _ _ _ _ c.in_ok-pars.ensures.says (fails_behind _ _ _ _ _ _ c.in_ok-closing.ensures.says (fails _ _ _ _ c.in_err-equals.ensures.says)))))

pub returns-in_err-value-clause-says : goal.returns-in_err-value-clause-says
returns-in_err-value-clause-says c =
    let p = err_from_is_err_and c.from_residual-in_err-value.result c.from_residual-in_err-value.ensures.1 in
    rw (p.1, p.2) (fails_made _ _ _ _ (fails_behind _ _ _ _ _ _ c.in_ok-opening.ensures.says (fails_behind _ _ _ _ _ _ c.in_ok-pars.ensures.says (fails_behind _ _ _ _ _ _ c.in_ok-closing.ensures.says (fails_behind _ _ _ _ _ _ c.in_ok-equals.ensures.says (fails _ _ _ _ c.in_err-value.ensures.says))))))

pub returns-in_err-attrs-clause-says : goal.returns-in_err-attrs-clause-says
returns-in_err-attrs-clause-says c =
    let p = err_from_is_err_and c.from_residual-in_err-attrs.result c.from_residual-in_err-attrs.ensures.1 in
    rw (p.1, p.2) (fails_made _ _ _ _ (fails_behind _ _ _ _ _ _ c.in_ok-opening.ensures.says (fails_behind _ _ _ _ _ _ c.in_ok-pars.ensures.says (fails_behind _ _ _ _ _ _ c.in_ok-closing.ensures.says (fails_behind _ _ _ _ _ _ c.in_ok-equals.ensures.says (fails_behind _ _ _ _ _ _ c.in_ok-value.ensures.says c.in_err-attrs.ensures.says))))))

pub returns-clause-says : goal.returns-clause-says
returns-clause-says c =
    makes _ _ _ _ _ (both _ _ _ _ _ _ _ c.in_ok-opening.ensures.says (both _ _ _ _ _ _ _ c.in_ok-pars.ensures.says (both _ _ _ _ _ _ _ c.in_ok-closing.ensures.says (both _ _ _ _ _ _ _ c.in_ok-equals.ensures.says (both _ _ _ _ _ _ _ c.in_ok-value.ensures.says c.in_ok-attrs.ensures.says)))))
