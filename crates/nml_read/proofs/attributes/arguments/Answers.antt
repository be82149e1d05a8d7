-- One thing more, or the end.
use Rattle.std.proofs.Common.{sym, arith}
use Rattle.std.proofs.lemmas.Result.{err_from_is_err_and}
use Rattle.readings.proofs.Furthering.{goes_step, goes_end, goes_fails, goes_with}
use Rattle.nml_read.proofs.attributes.arguments.Goals as goal

pub loop-comma-preserved : goal.loop-comma-preserved
loop-comma-preserved c = (
  goes_with _ _ _ _ _ _ (sym c.in_ok-push.ensures.ok) (goes_step _ _ _ _ _ _ _ _ _ c.loop-comma.invariant.0 (sym c.in-Some.ensures.behind) c.in_ok-argument.ensures.says),
  omega (arith, c.loop-comma.invariant.1, c.in-Some.ensures.shorter, c.in_ok-argument.ensures.shorter),
)

pub returns-in_err-argument-clause-says : goal.returns-in_err-argument-clause-says
returns-in_err-argument-clause-says c =
    let p = err_from_is_err_and c.from_residual.result c.from_residual.ensures.1 in
    rw (p.1, p.2) (goes_fails _ _ _ _ _ _ _ _ c.loop-comma.invariant.0 (sym c.in-Some.ensures.behind) c.in_err-argument.ensures.says)

pub returns-clause-says : goal.returns-clause-says
returns-clause-says c = goes_end _ _ _ _ _ c.loop-comma.invariant.0 (sym c.in_default.ensures.behind)
