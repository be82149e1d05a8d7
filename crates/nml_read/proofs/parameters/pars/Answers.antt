-- A closing parenthesis in front, or parameters.
use Rattle.std.proofs.Common.{sym}
use Rattle.std.proofs.lemmas.Result.{err_from_is_err_and}
use Rattle.nml_read.proofs.SayingRules.{no_pars, has_pars, pars_fail}
use Rattle.nml_read.proofs.parameters.pars.Goals as goal

pub returns-in-Some-clause-says : goal.returns-in-Some-clause-says
returns-in-Some-clause-says c = no_pars _ _ _ (sym c.in-Some.ensures.behind)

pub returns-in_err-pars-in-None-clause-says : goal.returns-in_err-pars-in-None-clause-says
returns-in_err-pars-in-None-clause-says c =
    let p = err_from_is_err_and c.from_residual.result c.from_residual.ensures.1 in
    rw (p.1, p.2) (pars_fail _ _ (sym c.in-None.ensures.behind) c.in_err-pars-in-None.ensures.says)

pub returns-in_ok-pars-in-None-clause-says : goal.returns-in_ok-pars-in-None-clause-says
returns-in_ok-pars-in-None-clause-says c = has_pars _ _ _ (sym c.in-None.ensures.behind) c.in_ok-pars-in-None.ensures.says
