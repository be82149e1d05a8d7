-- `halt`, its expression in parentheses, and the semicolon, one behind the other.
use Rattle.std.proofs.Common.{◌-◌, codes, refl}
use Rattle.std.proofs.lemmas.Result.{err_from_is_err_and}
use Rattle.readings.specs.Readings.{sign}
use Rattle.nml_statement.specs.Seen.{expression_of}
use Rattle.readings.proofs.Saying.{at_once, comes_both, comes_later, fails_behind_both, fails_both, fails_later, fails_now}
use Rattle.nml_statement.proofs.SayingStatements.{put-Halt}
use Rattle.nml_statement.proofs.statement.halting.Goals as goal

pub returns-in_err-e-clause-says : goal.returns-in_err-e-clause-says
returns-in_err-e-clause-says c =
    let p = err_from_is_err_and c.from_residual-in_err-e.result c.from_residual-in_err-e.ensures.1 in
    rw (p.1, p.2) (fails_later _ _ _ _ _ _ c.in_ok-opening.ensures.says
    (fails_both _ (expression_of (c.args.room - 1)) (sign (codes ")")) _ _ c.in_err-e.ensures.says))

pub returns-in_err-e-2-clause-says : goal.returns-in_err-e-2-clause-says
returns-in_err-e-2-clause-says c =
    let p = err_from_is_err_and c.from_residual-in_err-e-2.result c.from_residual-in_err-e-2.ensures.1 in
    let semicolon = rw c.in_err-e-2.ensures at c.mark-2.ensures.says in
    rw (p.1, p.2) (fails_later _ _ _ _ _ _ c.in_ok-opening.ensures.says
    (fails_behind_both _ (expression_of (c.args.room - 1)) (sign (codes ")")) _ _ _ _ _ c.in_ok-e.ensures.says (fails_now _ _ _ _ semicolon)))

pub returns-clause-says : goal.returns-clause-says
returns-clause-says c =
    let semicolon = rw c.in_ok-e-2.ensures.1 at c.mark-2.ensures.says in
    rw (c.in_ok-e-2.ensures.0, put-Halt c.args.at c.in_ok-opening.opening c.in_ok-e.e c.in_ok-e.closing c.in_ok-e-2.semicolon)
    (comes_later _ _ _ _ _ _ c.in_ok-opening.ensures.says (comes_both (expression_of (c.args.room - 1))
    (sign (codes ")")) _ _ _ _ _ _ c.in_ok-e.ensures.says (comes_later _ _ _ _ _ _ semicolon (at_once (λ n. refl)))))
