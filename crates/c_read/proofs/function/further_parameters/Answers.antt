-- One thing more, or the end.
use Rattle.std.proofs.Common.{ap, map, arith}
use Rattle.std.proofs.lemmas.Result.{err_from_is_err_and}
use Rattle.readings.specs.Seen.{seen}
use Rattle.c_statement.proofs.Gathering.{gathers_first, gathers_step, gathers_fails, not_longer}
use Rattle.c_read.proofs.Gathered.{gathered}
use Rattle.c_read.proofs.function.further_parameters.Goals as goal

pub loop-closing-init : goal.loop-closing-init
loop-closing-init c = (gathers_first _ _ _ _ _ _ c.new-found.ensures (ap (λ xs. map seen xs) c.split_at.ensures.back), not_longer _ _ c.split_at.ensures.back)

pub loop-closing-preserved : goal.loop-closing-preserved
loop-closing-preserved c = (
  gathers_step _ _ _ _ _ _ _ _ _ c.in_ok-push.ensures.ok c.loop-closing.invariant.0 c.in_default.ensures.behind c.in_ok-comma.ensures.says,
  omega (arith, c.loop-closing.invariant.1, c.in_ok-comma.ensures.shorter),
)

pub returns-in_err-comma-clause-says : goal.returns-in_err-comma-clause-says
returns-in_err-comma-clause-says c =
    let p = err_from_is_err_and c.from_residual.result c.from_residual.ensures.1 in
    rw (p.1, p.2) (gathers_fails _ _ _ _ _ _ _ c.loop-closing.invariant.0 c.in_default.ensures.behind c.in_err-comma.ensures.says)

pub returns-in-Some-clause-says : goal.returns-in-Some-clause-says
returns-in-Some-clause-says c = gathered _ _ _ _ _ _ _ c.loop-closing.invariant.0 c.in-Some.ensures.behind
