-- Alternatives behind `=`, or a rule with parameters.
use Rattle.std.proofs.Common.{sym}
use Rattle.std.proofs.lemmas.Result.{err_from_is_err_and}
use Rattle.nml_read.proofs.SayingRules.{rule_fails, rule_listed, rule_composed}
use Rattle.nml_read.proofs.rules.mode.Goals as goal

pub returns-in_err-name-clause-says : goal.returns-in_err-name-clause-says
returns-in_err-name-clause-says c =
    let p = err_from_is_err_and c.from_residual.result c.from_residual.ensures.1 in
    rw (p.1, p.2) (rule_fails _ _ _ _ c.in_err-name.ensures.says)

pub returns-in-Some-clause-says : goal.returns-in-Some-clause-says
returns-in-Some-clause-says c = rule_listed _ c.or_rule.result _ _ _ _ _ _ _ c.in_ok-name.ensures.says (sym c.in-Some.ensures.behind) c.or_rule.ensures.says

pub returns-in-None-clause-says : goal.returns-in-None-clause-says
returns-in-None-clause-says c = rule_composed _ c.mode_rule.result _ _ _ _ _ c.in_ok-name.ensures.says (sym c.in-None.ensures.behind) c.mode_rule.ensures.says
