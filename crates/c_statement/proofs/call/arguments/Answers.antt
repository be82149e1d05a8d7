-- The first argument, and those behind it.
use Rattle.std.proofs.lemmas.Result.{err_from_is_err_and}
use Rattle.readings.proofs.Saying.{both, fails_behind, fails_made, makes}
use Rattle.c_grammar.specs.Declarations.{expression}
use Rattle.c_statement.proofs.call.arguments.Goals as goal

pub returns-in_err-first-2-clause-says : goal.returns-in_err-first-2-clause-says
returns-in_err-first-2-clause-says c =
    let p = err_from_is_err_and c.from_residual-in_err-first-2.result c.from_residual-in_err-first-2.ensures.1 in
    let stop = rw c.in_err-first-2.ensures at c.others.ensures.says in
    rw (p.1, p.2) (fails_made _ _ _ _ (fails_made _ _ _ _ (fails_behind _ (expression c.args.room) _ _ _ _ c.in_ok-first.ensures.says stop)))

pub returns-clause-says : goal.returns-clause-says
returns-clause-says c =
    let more = rw c.in_ok-first-2.ensures.1 at c.others.ensures.says in
    rw c.in_ok-first-2.ensures.0 (makes _ _ _ _ _ (makes _ _ _ _ _ (both (expression c.args.room) _ _ _ _ _ _ c.in_ok-first.ensures.says more)))
