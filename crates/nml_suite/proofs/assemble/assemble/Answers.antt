use Rattle.std.proofs.lemmas.Result.{err_from_is_err_and}
use Rattle.nml_suite.proofs.Arriving.{arrived, opened, not_opened, described, not_described, assembled_text}
use Rattle.nml_suite.proofs.assemble.assemble.Goals as goal

pub returns-in_err-bytes : goal.returns-in_err-bytes
returns-in_err-bytes g c = λ i.
    let p = err_from_is_err_and c.from_residual.result c.from_residual.ensures.1 in
    rw (p.1, p.2)
    (not_opened _ _ _ _ _ _ c.in_err-bytes.ensures)

pub returns-in_err-graph : goal.returns-in_err-graph
returns-in_err-graph g c = λ i.
    let p = err_from_is_err_and c.from_residual-in_err-graph.result c.from_residual-in_err-graph.ensures.1 in
    rw (p.1, p.2)
    (arrived _ _ _ _ _ _ _ _ (opened _ _ _ _ _ _ c.in_ok-bytes.ensures)
    (not_described _ _ _ _ _ _ (rw c.deref.ensures.value at c.in_err-graph.ensures)))

pub returns-in_err-text : goal.returns-in_err-text
returns-in_err-text g c = λ i.
    let p = err_from_is_err_and c.from_residual-in_err-text.result c.from_residual-in_err-text.ensures.1 in
    rw (p.1, p.2)
    (arrived _ _ _ _ _ _ _ _ (opened _ _ _ _ _ _ c.in_ok-bytes.ensures)
    (arrived _ _ _ _ _ _ _ _ (described _ _ _ _ c.in_ok-graph.graph _ (rw c.deref.ensures.value at c.in_ok-graph.ensures))
    (not_opened _ _ _ _ _ _ c.in_err-text.ensures)))

pub returns : goal.returns
returns g c = λ i.
    arrived _ _ _ _ _ _ _ _ (opened _ _ _ _ _ _ c.in_ok-bytes.ensures)
    (arrived _ _ _ _ _ _ _ _ (described _ _ _ _ c.in_ok-graph.graph _ (rw c.deref.ensures.value at c.in_ok-graph.ensures))
    (arrived _ _ _ _ _ _ _ _ (opened _ _ _ _ _ _ c.in_ok-text.ensures)
    (assembled_text _ _ i _ c.in_ok-graph.graph _ c.image_and_file.result (rw (c.deref-2.ensures.value, c.deref-3.ensures.value) at c.image_and_file.ensures))))
