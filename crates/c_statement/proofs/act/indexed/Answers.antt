-- The index, its bracket and what is done stand one behind the other.
use Rattle.std.proofs.Common.{codes, ◌-◌}
use Rattle.std.proofs.lemmas.Result.{err_from_is_err_and}
use Rattle.readings.specs.Readings.{sign}
use Rattle.readings.proofs.Saying.{fails_made, makes}
use Rattle.c_grammar.specs.Declarations.{expression}
use Rattle.c_statement.proofs.Saying.{trio, trio_fails}
use Rattle.c_statement.proofs.act.indexed.Goals as goal

pub returns-in_err-index-2-clause-says : goal.returns-in_err-index-2-clause-says
returns-in_err-index-2-clause-says c =
    let p = err_from_is_err_and c.from_residual-in_err-index-2.result c.from_residual-in_err-index-2.ensures.1 in
    let stop = rw c.in_err-index-2.ensures at c.done.ensures.says in
    rw (p.1, p.2) (fails_made _ _ _ _ (trio_fails _ (expression (c.args.room - 1)) (sign (codes "]")) _ _ _ _ _ c.in_ok-index.ensures.says stop))

pub returns-clause-says : goal.returns-clause-says
returns-clause-says c =
    let deed = rw c.in_ok-index-2.ensures.1 at c.done.ensures.says in
    rw (c.done_to.ensures, c.in_ok-index-2.ensures.0)
    (makes _ _ _ _ _ (trio (expression (c.args.room - 1)) (sign (codes "]")) _ _ _ _ _ _ _ c.in_ok-index.ensures.says deed))
