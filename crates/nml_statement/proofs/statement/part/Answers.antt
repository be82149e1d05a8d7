-- Behind the dot stand two symbols.
use Rattle.std.proofs.Common.{refl}
use Rattle.std.proofs.lemmas.Result.{err_from_is_err_and}
use Rattle.readings.proofs.Saying.{at_once, comes_later, fails_later, fails_now}
use Rattle.nml_statement.proofs.SayingStatements.{put-Part}
use Rattle.nml_statement.proofs.statement.part.Goals as goal

pub returns-in_err-semicolon-clause-says : goal.returns-in_err-semicolon-clause-says
returns-in_err-semicolon-clause-says c =
    let p = err_from_is_err_and c.from_residual-in_err-semicolon.result c.from_residual-in_err-semicolon.ensures.1 in
    rw (p.1, p.2) (fails_later _ _ _ _ _ _ c.in_ok-at.ensures.says (fails_now _ _ _ _ c.in_err-semicolon.ensures.says))

pub returns-clause-says : goal.returns-clause-says
returns-clause-says c =
    rw (put-Part c.args.name c.args.dot c.in_ok-at.at c.in_ok-semicolon.semicolon)
    (comes_later _ _ _ _ _ _ c.in_ok-at.ensures.says (comes_later _ _ _ _ _ _ c.in_ok-semicolon.ensures.says (at_once (λ n. refl))))
