-- Each stop is the reading's, and what is found is what it finds.
use Rattle.std.proofs.lemmas.Result.{err_from_is_err_and}
use Rattle.readings.proofs.Saying.{both, fails_behind, fails_made, makes}
use Rattle.nml_read.proofs.item.type_item.Goals as goal

pub returns-in_err-ty-clause-says : goal.returns-in_err-ty-clause-says
returns-in_err-ty-clause-says c =
    let p = err_from_is_err_and c.from_residual-in_err-ty.result c.from_residual-in_err-ty.ensures.1 in
    rw (p.1, p.2) (fails_made _ _ _ _ (fails_behind _ _ _ _ _ _ c.in_ok-name.ensures.says (fails_behind _ _ _ _ _ _ c.in_ok-equals.ensures.says c.in_err-ty.ensures.says)))

pub returns-clause-says : goal.returns-clause-says
returns-clause-says c =
    makes _ _ _ _ _ (both _ _ _ _ _ _ _ c.in_ok-name.ensures.says (both _ _ _ _ _ _ _ c.in_ok-equals.ensures.says c.in_ok-ty.ensures.says))
