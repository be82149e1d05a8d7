-- One thing more, or the end.
use Rattle.std.proofs.Common.{sym, arith}
use Rattle.std.proofs.lemmas.Result.{err_from_is_err_and}
use Rattle.readings.proofs.Furthering.{goes_step, goes_end, goes_fails, goes_with}
use Rattle.nml_read.proofs.rules.further_names.Goals as goal

pub loop-bar-preserved : goal.loop-bar-preserved
loop-bar-preserved c = (
  goes_with _ _ _ _ _ _ (sym c.in_ok-push.ensures.ok) (goes_step _ _ _ _ _ _ _ _ _ c.loop-bar.invariant.0 (sym c.in-Some.ensures.behind) c.in_ok-name.ensures.says),
  omega (arith, c.loop-bar.invariant.1, c.in-Some.ensures.shorter, c.in_ok-name.ensures.shorter),
)

pub returns-in_err-name-clause-says : goal.returns-in_err-name-clause-says
returns-in_err-name-clause-says c =
    let p = err_from_is_err_and c.from_residual.result c.from_residual.ensures.1 in
    rw (p.1, p.2) (goes_fails _ _ _ _ _ _ _ _ c.loop-bar.invariant.0 (sym c.in-Some.ensures.behind) c.in_err-name.ensures.says)

pub returns-clause-says : goal.returns-clause-says
returns-clause-says c = goes_end _ _ _ _ _ c.loop-bar.invariant.0 (sym c.in_default.ensures.behind)
