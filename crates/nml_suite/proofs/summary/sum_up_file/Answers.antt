use Rattle.std.proofs.lemmas.Result.{err_from_is_err_and}
use Rattle.nml_suite.proofs.Arriving.{arrived, opened, not_opened, not_accepted, summed_up}
use Rattle.nml_suite.proofs.summary.sum_up_file.Goals as goal

pub returns-in_err-bytes : goal.returns-in_err-bytes
returns-in_err-bytes g c =
    let p = err_from_is_err_and c.from_residual.result c.from_residual.ensures.1 in
    rw (p.1, p.2) (not_opened _ _ _ _ _ _ c.in_err-bytes.ensures)

pub returns-in_err-tree : goal.returns-in_err-tree
returns-in_err-tree g c =
    let p = err_from_is_err_and c.from_residual-in_err-tree.result c.from_residual-in_err-tree.ensures.1 in
    rw (p.1, p.2)
    (arrived _ _ _ _ _ _ _ _ (opened _ _ _ _ _ _ c.in_ok-bytes.ensures)
    (not_accepted _ _ _ _ _ _ (rw c.deref.ensures.value at c.in_err-tree.ensures)))

pub returns : goal.returns
returns g c =
    arrived _ _ _ _ _ _ _ _ (opened _ _ _ _ _ _ c.in_ok-bytes.ensures)
    (summed_up _ _ _ c.in_ok-tree.tree c.summed_up.result (rw c.deref.ensures.value at c.in_ok-tree.ensures) c.summed_up.ensures)
