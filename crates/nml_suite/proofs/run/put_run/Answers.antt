use Rattle.std.proofs.lemmas.Result.{err_from_is_err_and}
use Rattle.nml_suite.proofs.Outputs.{cut_in_outputs, cut_in_stop, put_whole}
use Rattle.nml_suite.proofs.run.put_run.Goals as goal

pub returns-in_err-stop-clause-run : goal.returns-in_err-stop-clause-run
returns-in_err-stop-clause-run g c =
    let p = err_from_is_err_and c.from_residual.result c.from_residual.ensures.1 in
    rw p.1 (cut_in_outputs _ _ _ _ c.in_err-stop.ensures.put)

pub returns-in_err-put_stop-clause-run : goal.returns-in_err-put_stop-clause-run
returns-in_err-put_stop-clause-run g c =
    let p = err_from_is_err_and c.from_residual-in_err-put_stop.result c.from_residual-in_err-put_stop.ensures.1 in
    rw p.1 (cut_in_stop _ _ _ _ _ _ c.in_ok-stop.ensures.put c.in_err-put_stop.ensures.err)

pub returns-clause-run : goal.returns-clause-run
returns-clause-run g c = put_whole _ _ _ _ _ _ _ c.in_ok-stop.ensures.put c.in_ok-put_stop.ensures.ok c.status.ensures
