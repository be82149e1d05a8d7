-- The first variable, and those behind it.
use Rattle.std.proofs.lemmas.Result.{err_from_is_err_and}
use Rattle.readings.proofs.Saying.{both, fails_behind, fails_made, makes}
use Rattle.c_grammar.specs.Declarations.{variable_within, further_variables}
use Rattle.c_statement.proofs.declaration.variables_declared.Goals as goal

pub returns-in_err-first-2-clause-says : goal.returns-in_err-first-2-clause-says
returns-in_err-first-2-clause-says c =
    let p = err_from_is_err_and c.from_residual-in_err-first-2.result c.from_residual-in_err-first-2.ensures.1 in
    let stop = rw c.in_err-first-2.ensures at c.further_variables.ensures.says in
    rw (p.1, p.2) (fails_made _ _ _ _ (fails_behind _ (variable_within c.args.room) (further_variables c.args.room) _ _ _ c.in_ok-first.ensures.says stop))

pub returns-clause-says : goal.returns-clause-says
returns-clause-says c =
    let more = rw c.in_ok-first-2.ensures.1 at c.further_variables.ensures.says in
    rw c.in_ok-first-2.ensures.0
    (makes _ _ _ _ _ (both (variable_within c.args.room) (further_variables c.args.room) _ _ _ _ _ c.in_ok-first.ensures.says more))
