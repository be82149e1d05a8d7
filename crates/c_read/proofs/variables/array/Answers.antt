-- The number, the bracket and the values stand one behind the other.
use Rattle.std.proofs.lemmas.Result.{err_from_is_err_and}
use Rattle.readings.proofs.Saying.{both, fails_behind, fails_made, makes}
use Rattle.c_read.proofs.variables.array.Goals as goal

pub returns-in_err-initials-clause-says : goal.returns-in_err-initials-clause-says
returns-in_err-initials-clause-says c =
    let p = err_from_is_err_and c.from_residual-in_err-initials.result c.from_residual-in_err-initials.ensures.1 in
    rw (p.1, p.2) (fails_made _ _ _ _ (fails_behind _ _ _ _ _ _ c.in_ok-number.ensures.says (fails_behind _ _ _ _ _ _ c.in_ok-closing.ensures.says c.in_err-initials.ensures.says)))

pub returns-clause-says : goal.returns-clause-says
returns-clause-says c =
    rw c.row.ensures (makes _ _ _ _ _ (both _ _ _ _ _ _ _ c.in_ok-number.ensures.says (both _ _ _ _ _ _ _ c.in_ok-closing.ensures.says c.in_ok-initials.ensures.says)))
