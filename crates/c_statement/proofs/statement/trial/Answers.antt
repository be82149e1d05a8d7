-- The word, the condition and the semicolon stand one behind the other.
use Rattle.std.proofs.Common.{codes}
use Rattle.std.proofs.lemmas.Result.{err_from_is_err_and}
use Rattle.readings.specs.Readings.{◌>>>◌, sign}
use Rattle.readings.proofs.Saying.{both, fails, fails_behind}
use Rattle.c_grammar.specs.ReadingStatements.{condition}
use Rattle.c_statement.proofs.statement.trial.Goals as goal

pub returns-in_err-opening-clause-says : goal.returns-in_err-opening-clause-says
returns-in_err-opening-clause-says c =
    let p = err_from_is_err_and c.from_residual-in_err-opening.result c.from_residual-in_err-opening.ensures.1 in
    rw (p.1, p.2) (fails_behind _ (sign (codes "while")) (condition c.args.room >>> sign (codes ";")) _ _ _ c.in_ok-at.ensures.says
    (fails _ (condition c.args.room) (sign (codes ";")) _ c.in_err-opening.ensures.says))

pub returns-in_err-c-clause-says : goal.returns-in_err-c-clause-says
returns-in_err-c-clause-says c =
    let p = err_from_is_err_and c.from_residual-in_err-c.result c.from_residual-in_err-c.ensures.1 in
    let stop = rw c.in_err-c.ensures at c.mark-2.ensures.says in
    rw (p.1, p.2) (fails_behind _ (sign (codes "while")) (condition c.args.room >>> sign (codes ";")) _ _ _ c.in_ok-at.ensures.says
    (fails_behind _ (condition c.args.room) (sign (codes ";")) _ _ _ c.in_ok-opening.ensures.says stop))

pub returns-clause-says : goal.returns-clause-says
returns-clause-says c =
    let semicolon = rw c.in_ok-c.ensures.1 at c.mark-2.ensures.says in
    rw c.in_ok-c.ensures.0
    (both (sign (codes "while")) (condition c.args.room >>> sign (codes ";")) _ _ _ _ _ c.in_ok-at.ensures.says
    (both (condition c.args.room) (sign (codes ";")) _ _ _ _ _ c.in_ok-opening.ensures.says semicolon))
