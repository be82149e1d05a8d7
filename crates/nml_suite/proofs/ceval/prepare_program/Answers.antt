use Rattle.std.proofs.Common.{subst, Ok, Err}
use Rattle.std.proofs.lemmas.Result.{err_from_is_err_and}
use Rattle.nml_suite.specs.Refusing.{IsTargeted}
use Rattle.nml_suite.proofs.Arriving.{arrived, opened, not_opened, accepted, not_accepted, targeted, not_targeted, compiled, not_compiled, numbered, not_numbered}
use Rattle.nml_suite.proofs.ceval.prepare_program.Goals as goal

pub returns-in_err-bytes : goal.returns-in_err-bytes
returns-in_err-bytes g c =
    let p = err_from_is_err_and c.from_residual.result c.from_residual.ensures.1 in
    rw (p.1, p.2)
    (λ turns. (not_opened _ _ _ _ _ _ c.in_err-bytes.ensures))

pub returns-in_err-tree : goal.returns-in_err-tree
returns-in_err-tree g c =
    let p = err_from_is_err_and c.from_residual-in_err-tree.result c.from_residual-in_err-tree.ensures.1 in
    rw (p.1, p.2)
    (λ turns. (arrived _ _ _ _ _ _ _ _ (opened _ _ _ _ _ _ c.in_ok-bytes.ensures)
    (not_accepted _ _ _ _ _ _ (rw c.deref.ensures.value at c.in_err-tree.ensures))))

pub returns-in_err-width : goal.returns-in_err-width
returns-in_err-width g c =
    let p = err_from_is_err_and c.from_residual-in_err-width.result c.from_residual-in_err-width.ensures.1 in
    rw (p.1, p.2)
    (λ turns. (arrived _ _ _ _ _ _ _ _ (opened _ _ _ _ _ _ c.in_ok-bytes.ensures)
    (arrived _ _ _ _ _ _ _ _ (accepted _ _ _ _ c.in_ok-tree.tree _ (rw c.deref.ensures.value at c.in_ok-tree.ensures))
    (not_targeted _ _ _ _ _ _ (subst (λ t. IsTargeted c.args.description.now t (Err c.in_err-width.field-0.0)) c.tree_of.ensures c.in_err-width.ensures)))))

pub returns-in_err-text : goal.returns-in_err-text
returns-in_err-text g c =
    let p = err_from_is_err_and c.from_residual-in_err-text.result c.from_residual-in_err-text.ensures.1 in
    rw (p.1, p.2)
    (λ turns. (arrived _ _ _ _ _ _ _ _ (opened _ _ _ _ _ _ c.in_ok-bytes.ensures)
    (arrived _ _ _ _ _ _ _ _ (accepted _ _ _ _ c.in_ok-tree.tree _ (rw c.deref.ensures.value at c.in_ok-tree.ensures))
    (arrived _ _ _ _ _ _ _ _ (targeted _ _ _ _ c.in_ok-width.width _ (subst (λ t. IsTargeted c.args.description.now t (Ok c.in_ok-width.width)) c.tree_of.ensures c.in_ok-width.ensures).0)
    (not_opened _ _ _ _ _ _ c.in_err-text.ensures)))))

pub returns-in_err-program : goal.returns-in_err-program
returns-in_err-program g c =
    let p = err_from_is_err_and c.from_residual-in_err-program.result c.from_residual-in_err-program.ensures.1 in
    rw (p.1, p.2)
    (λ turns. (arrived _ _ _ _ _ _ _ _ (opened _ _ _ _ _ _ c.in_ok-bytes.ensures)
    (arrived _ _ _ _ _ _ _ _ (accepted _ _ _ _ c.in_ok-tree.tree _ (rw c.deref.ensures.value at c.in_ok-tree.ensures))
    (arrived _ _ _ _ _ _ _ _ (targeted _ _ _ _ c.in_ok-width.width _ (subst (λ t. IsTargeted c.args.description.now t (Ok c.in_ok-width.width)) c.tree_of.ensures c.in_ok-width.ensures).0)
    (arrived _ _ _ _ _ _ _ _ (opened _ _ _ _ _ _ c.in_ok-text.ensures)
    (not_compiled _ _ _ _ _ _ _ (rw c.deref-2.ensures.value at c.in_err-program.ensures)))))))

pub returns-in_err-entry : goal.returns-in_err-entry
returns-in_err-entry g c =
    let p = err_from_is_err_and c.from_residual-in_err-entry.result c.from_residual-in_err-entry.ensures.1 in
    rw (p.1, p.2)
    (λ turns. (arrived _ _ _ _ _ _ _ _ (opened _ _ _ _ _ _ c.in_ok-bytes.ensures)
    (arrived _ _ _ _ _ _ _ _ (accepted _ _ _ _ c.in_ok-tree.tree _ (rw c.deref.ensures.value at c.in_ok-tree.ensures))
    (arrived _ _ _ _ _ _ _ _ (targeted _ _ _ _ c.in_ok-width.width _ (subst (λ t. IsTargeted c.args.description.now t (Ok c.in_ok-width.width)) c.tree_of.ensures c.in_ok-width.ensures).0)
    (arrived _ _ _ _ _ _ _ _ (opened _ _ _ _ _ _ c.in_ok-text.ensures)
    (arrived _ _ _ _ _ _ _ _ (compiled _ _ _ _ _ c.in_ok-program.program.0 _ (rw c.deref-2.ensures.value at c.in_ok-program.ensures).1)
    (not_opened _ _ _ _ _ _ c.in_err-entry.ensures)))))))

pub returns-in_err-numbers : goal.returns-in_err-numbers
returns-in_err-numbers g c =
    let p = err_from_is_err_and c.from_residual-in_err-numbers.result c.from_residual-in_err-numbers.ensures.1 in
    rw (p.1, p.2)
    (λ turns. (arrived _ _ _ _ _ _ _ _ (opened _ _ _ _ _ _ c.in_ok-bytes.ensures)
    (arrived _ _ _ _ _ _ _ _ (accepted _ _ _ _ c.in_ok-tree.tree _ (rw c.deref.ensures.value at c.in_ok-tree.ensures))
    (arrived _ _ _ _ _ _ _ _ (targeted _ _ _ _ c.in_ok-width.width _ (subst (λ t. IsTargeted c.args.description.now t (Ok c.in_ok-width.width)) c.tree_of.ensures c.in_ok-width.ensures).0)
    (arrived _ _ _ _ _ _ _ _ (opened _ _ _ _ _ _ c.in_ok-text.ensures)
    (arrived _ _ _ _ _ _ _ _ (compiled _ _ _ _ _ c.in_ok-program.program.0 _ (rw c.deref-2.ensures.value at c.in_ok-program.ensures).1)
    (arrived _ _ _ _ _ _ _ _ (opened _ _ _ _ _ _ c.in_ok-entry.ensures)
    (not_numbered _ _ _ _ _ _ _ (rw c.deref-3.ensures.value at c.in_err-numbers.ensures)))))))))

pub returns : goal.returns
returns g c = λ turns. (arrived _ _ _ _ _ _ _ _ (opened _ _ _ _ _ _ c.in_ok-bytes.ensures)
    (arrived _ _ _ _ _ _ _ _ (accepted _ _ _ _ c.in_ok-tree.tree _ (rw c.deref.ensures.value at c.in_ok-tree.ensures))
    (arrived _ _ _ _ _ _ _ _ (targeted _ _ _ _ c.in_ok-width.width _ (subst (λ t. IsTargeted c.args.description.now t (Ok c.in_ok-width.width)) c.tree_of.ensures c.in_ok-width.ensures).0)
    (arrived _ _ _ _ _ _ _ _ (opened _ _ _ _ _ _ c.in_ok-text.ensures)
    (arrived _ _ _ _ _ _ _ _ (compiled _ _ _ _ _ c.in_ok-program.program.0 _ (rw c.deref-2.ensures.value at c.in_ok-program.ensures).1)
    (arrived _ _ _ _ _ _ _ _ (opened _ _ _ _ _ _ c.in_ok-entry.ensures)
    (numbered _ _ _ c.in_ok-width.width _ _ _ c.in_ok-numbers.numbers.items c.in_ok-program.ensures.0 (rw c.deref-3.ensures.value at c.in_ok-numbers.ensures))))))))
