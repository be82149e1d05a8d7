use Rattle.std.proofs.Common.{◌∙◌}
use Rattle.std.proofs.lemmas.Result.{err_from_is_err_and}
use Rattle.nk_base.proofs.HexadecimalFronts.{front_more, all_but_last}
use Rattle.nk_base.proofs.hexadecimal.+push_hexadecimal.Goals as goal

pub returns-in_err-push_hexadecimal-clause-err : goal.returns-in_err-push_hexadecimal-clause-err
returns-in_err-push_hexadecimal-clause-err t c =
    let p = err_from_is_err_and c.from_residual.result c.from_residual.ensures.1 in
    rw p.1 (front_more _ _ c.args.digits c.args.n c.if-digits-gt0.true c.in_err-push_hexadecimal.ensures.err)

pub returns-in_err-push-clause-err : goal.returns-in_err-push-clause-err
returns-in_err-push-clause-err t c =
    let p = err_from_is_err_and c.from_residual-in_err-push.result c.from_residual-in_err-push.ensures.1 in
    rw p.1 (all_but_last _ _ c.args.digits c.args.n c.if-digits-gt0.true (c.in_err-push.ensures.err ∙ c.in_ok-push_hexadecimal.ensures.ok))
