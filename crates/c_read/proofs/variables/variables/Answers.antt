-- The first variable, and those behind it.
use Rattle.std.proofs.lemmas.Result.{err_from_is_err_and}
use Rattle.readings.proofs.Saying.{both, fails_behind, fails_made, makes}
use Rattle.c_grammar.specs.Globals.{global_behind, further_globals}
use Rattle.c_read.proofs.variables.variables.Goals as goal

pub returns-in_err-others-clause-says : goal.returns-in_err-others-clause-says
returns-in_err-others-clause-says c =
    let p = err_from_is_err_and c.from_residual-in_err-others.result c.from_residual-in_err-others.ensures.1 in
    rw (p.1, p.2) (fails_made _ _ _ _ (fails_behind _ (global_behind c.args.name) further_globals _ _ _ c.in_ok-first.ensures.says c.in_err-others.ensures.says))

pub returns-clause-says : goal.returns-clause-says
returns-clause-says c =
    makes _ _ _ _ _ (both (global_behind c.args.name) further_globals _ _ _ _ _ c.in_ok-first.ensures.says c.in_ok-others.ensures.says)
