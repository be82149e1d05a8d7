-- An action is found where its word is in front.
use Rattle.std.proofs.Common.{sym}
use Rattle.std.proofs.lemmas.Result.{err_from_is_err_and}
use Rattle.readings.proofs.Saying.{makes, fails_made, present, fails_present}
use Rattle.nml_read.proofs.attributes.action.Goals as goal

pub returns-in_err-equals-in-Some-clause-says : goal.returns-in_err-equals-in-Some-clause-says
returns-in_err-equals-in-Some-clause-says c =
    let p = err_from_is_err_and c.from_residual.result c.from_residual.ensures.1 in
    rw (p.1, p.2) (fails_made _ _ _ _ (fails_present _ _ _ _ _ _ (sym c.in-Some.ensures.behind) c.in_err-equals-in-Some.ensures.says))

pub returns-in_ok-equals-in-Some-clause-says : goal.returns-in_ok-equals-in-Some-clause-says
returns-in_ok-equals-in-Some-clause-says c = makes _ _ _ _ _ (present _ _ _ _ _ _ _ (sym c.in-Some.ensures.behind) c.in_ok-equals-in-Some.ensures.says)
