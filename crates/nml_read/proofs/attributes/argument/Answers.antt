-- Each stop is the reading's, and what is found is what it finds.
use Rattle.std.proofs.lemmas.Result.{err_from_is_err_and}
use Rattle.readings.proofs.Saying.{fails_behind, fails_made}
use Rattle.nml_read.proofs.attributes.argument.Goals as goal

pub returns-in_err-attribute-clause-says : goal.returns-in_err-attribute-clause-says
returns-in_err-attribute-clause-says c =
    let p = err_from_is_err_and c.from_residual-in_err-attribute.result c.from_residual-in_err-attribute.ensures.1 in
    rw (p.1, p.2) (fails_made _ _ _ _ (fails_behind _ _ _ _ _ _ c.in_ok-name.ensures.says c.in_err-attribute.ensures.says))
