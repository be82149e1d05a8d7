-- The second part, and the third behind it.
use Rattle.std.proofs.Common.{codes, ◌-◌}
use Rattle.std.proofs.lemmas.Result.{err_from_is_err_and}
use Rattle.readings.proofs.Saying.{both, fails_behind}
use Rattle.c_grammar.specs.Acts.{act_read}
use Rattle.c_grammar.specs.Declarations.{expression}
use Rattle.c_grammar.specs.Until.{ended}
use Rattle.c_statement.proofs.header.two_parts.Goals as goal

pub returns-in_err-condition-2-clause-says : goal.returns-in_err-condition-2-clause-says
returns-in_err-condition-2-clause-says c =
    let p = err_from_is_err_and c.from_residual-in_err-condition-2.result c.from_residual-in_err-condition-2.ensures.1 in
    let stop = rw c.in_err-condition-2.ensures at c.last_part.ensures.says in
    rw (p.1, p.2) (fails_behind _ (ended (codes ";") (expression c.args.room)) (ended (codes ")") (act_read (c.args.room - 1))) _ _ _ c.in_ok-condition.ensures.says stop)

pub returns-clause-says : goal.returns-clause-says
returns-clause-says c =
    let last = rw c.in_ok-condition-2.ensures.1 at c.last_part.ensures.says in
    rw c.in_ok-condition-2.ensures.0
    (both (ended (codes ";") (expression c.args.room)) (ended (codes ")") (act_read (c.args.room - 1))) _ _ _ _ _ c.in_ok-condition.ensures.says last)
