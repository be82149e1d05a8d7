-- The parts stand one behind the other.
use Rattle.std.proofs.Common.{codes, ◌-◌}
use Rattle.std.proofs.lemmas.Result.{err_from_is_err_and}
use Rattle.readings.specs.Readings.{◌>>>◌, sign}
use Rattle.readings.proofs.Saying.{both, fails, fails_behind}
use Rattle.c_grammar.specs.Acts.{act_read}
use Rattle.c_grammar.specs.Declarations.{expression}
use Rattle.c_grammar.specs.ReadingStatements.{opening_read}
use Rattle.c_grammar.specs.Until.{ended}
use Rattle.c_statement.proofs.header.three_parts.Goals as goal

pub returns-in_err-first-clause-says : goal.returns-in_err-first-clause-says
returns-in_err-first-clause-says c =
    let p = err_from_is_err_and c.from_residual-in_err-first.result c.from_residual-in_err-first.ensures.1 in
    let first = ended (codes ";") (opening_read (c.args.room - 1)) in
    let others = ended (codes ";") (expression c.args.room) >>> ended (codes ")") (act_read (c.args.room - 1)) in
    rw (p.1, p.2) (fails_behind _ (sign (codes "(")) (first >>> others) _ _ _ c.in_ok-opening.ensures.says (fails _ first others _ c.in_err-first.ensures.says))

pub returns-in_err-first-2-clause-says : goal.returns-in_err-first-2-clause-says
returns-in_err-first-2-clause-says c =
    let p = err_from_is_err_and c.from_residual-in_err-first-2.result c.from_residual-in_err-first-2.ensures.1 in
    let stop = rw c.in_err-first-2.ensures at c.two_parts.ensures.says in
    let first = ended (codes ";") (opening_read (c.args.room - 1)) in
    let others = ended (codes ";") (expression c.args.room) >>> ended (codes ")") (act_read (c.args.room - 1)) in
    rw (p.1, p.2) (fails_behind _ (sign (codes "(")) (first >>> others) _ _ _ c.in_ok-opening.ensures.says
    (fails_behind _ first others _ _ _ c.in_ok-first.ensures.says stop))

pub returns-clause-says : goal.returns-clause-says
returns-clause-says c =
    let later = rw c.in_ok-first-2.ensures.1 at c.two_parts.ensures.says in
    let first = ended (codes ";") (opening_read (c.args.room - 1)) in
    let others = ended (codes ";") (expression c.args.room) >>> ended (codes ")") (act_read (c.args.room - 1)) in
    rw c.in_ok-first-2.ensures.0
    (both (sign (codes "(")) (first >>> others) _ _ _ _ _ c.in_ok-opening.ensures.says (both first others _ _ _ _ _ c.in_ok-first.ensures.says later))
