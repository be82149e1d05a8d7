use Rattle.std.proofs.lemmas.Result.{err_from_is_err_and}
use Rattle.nml_suite.proofs.Arriving.{arrived, opened, not_opened, described, not_described, loaded, not_loaded, shown_text}
use Rattle.nml_suite.proofs.dis.disassembled.Goals as goal

pub returns-in_err-bytes : goal.returns-in_err-bytes
returns-in_err-bytes g c =
    let p = err_from_is_err_and c.from_residual.result c.from_residual.ensures.1 in
    rw (p.1, p.2)
    (not_opened _ _ _ _ _ _ c.in_err-bytes.ensures)

pub returns-in_err-graph : goal.returns-in_err-graph
returns-in_err-graph g c =
    let p = err_from_is_err_and c.from_residual-in_err-graph.result c.from_residual-in_err-graph.ensures.1 in
    rw (p.1, p.2)
    (arrived _ _ _ _ _ _ _ _ (opened _ _ _ _ _ _ c.in_ok-bytes.ensures)
    (not_described _ _ _ _ _ _ (rw c.deref.ensures.value at c.in_err-graph.ensures)))

pub returns-in_err-bits : goal.returns-in_err-bits
returns-in_err-bits g c =
    let p = err_from_is_err_and c.from_residual-in_err-bits.result c.from_residual-in_err-bits.ensures.1 in
    rw (p.1, p.2)
    (arrived _ _ _ _ _ _ _ _ (opened _ _ _ _ _ _ c.in_ok-bytes.ensures)
    (arrived _ _ _ _ _ _ _ _ (described _ _ _ _ c.in_ok-graph.graph _ (rw c.deref.ensures.value at c.in_ok-graph.ensures))
    (not_opened _ _ _ _ _ _ c.in_err-bits.ensures)))

pub returns-in_err-found : goal.returns-in_err-found
returns-in_err-found g c =
    let p = err_from_is_err_and c.from_residual-in_err-found.result c.from_residual-in_err-found.ensures.1 in
    rw (p.1, p.2)
    (arrived _ _ _ _ _ _ _ _ (opened _ _ _ _ _ _ c.in_ok-bytes.ensures)
    (arrived _ _ _ _ _ _ _ _ (described _ _ _ _ c.in_ok-graph.graph _ (rw c.deref.ensures.value at c.in_ok-graph.ensures))
    (arrived _ _ _ _ _ _ _ _ (opened _ _ _ _ _ _ c.in_ok-bits.ensures)
    (not_loaded _ _ _ _ _ _ _ _ (rw (c.deref-2.ensures.value, c.deref-3.ensures.value) at c.in_err-found.ensures)))))

pub returns : goal.returns
returns g c =
    arrived _ _ _ _ _ _ _ _ (opened _ _ _ _ _ _ c.in_ok-bytes.ensures)
    (arrived _ _ _ _ _ _ _ _ (described _ _ _ _ c.in_ok-graph.graph _ (rw c.deref.ensures.value at c.in_ok-graph.ensures))
    (arrived _ _ _ _ _ _ _ _ (opened _ _ _ _ _ _ c.in_ok-bits.ensures)
    (arrived _ _ _ _ _ _ _ _ (loaded _ _ _ _ c.in_ok-graph.graph _ c.in_ok-found.found _ (rw (c.deref-2.ensures.value, c.deref-3.ensures.value) at c.in_ok-found.ensures))
    (shown_text _ c.in_ok-graph.graph _ c.canonical.result c.canonical.ensures))))
