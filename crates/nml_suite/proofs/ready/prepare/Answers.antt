use Rattle.std.proofs.Common.{◌≡◌, subst, Ok, Err}
use Rattle.std.proofs.lemmas.Result.{err_from_is_err_and}
use Rattle.input_lines.specs.Input.{numbers}
use Rattle.nml_tree.specs.Table.{table}
use Rattle.nml_suite.specs.Refusing.{IsNumbered}
use Rattle.nml_suite.proofs.Arriving.{port_is, arrived, both, opened, not_opened, described, not_described, loaded, not_loaded, entered, not_entered}
use Rattle.nml_suite.proofs.ready.prepare.Goals as goal

pub returns-in_err-bytes : goal.returns-in_err-bytes
returns-in_err-bytes g c =
    let p = err_from_is_err_and c.from_residual.result c.from_residual.ensures.1 in
    rw (p.1, p.2)
    (λ steps. not_opened _ _ _ _ _ _ c.in_err-bytes.ensures)

pub returns-in_err-graph : goal.returns-in_err-graph
returns-in_err-graph g c =
    let p = err_from_is_err_and c.from_residual-in_err-graph.result c.from_residual-in_err-graph.ensures.1 in
    rw (p.1, p.2)
    (λ steps. arrived _ _ _ _ _ _ _ _ (opened _ _ _ _ _ _ c.in_ok-bytes.ensures)
    (not_described _ _ _ _ _ _ (rw c.deref.ensures.value at c.in_err-graph.ensures)))

pub returns-in_err-bits : goal.returns-in_err-bits
returns-in_err-bits g c =
    let p = err_from_is_err_and c.from_residual-in_err-bits.result c.from_residual-in_err-bits.ensures.1 in
    rw (p.1, p.2)
    (λ steps. arrived _ _ _ _ _ _ _ _ (opened _ _ _ _ _ _ c.in_ok-bytes.ensures)
    (arrived _ _ _ _ _ _ _ _ (described _ _ _ _ c.in_ok-graph.graph _ (rw c.deref.ensures.value at c.in_ok-graph.ensures))
    (not_opened _ _ _ _ _ _ c.in_err-bits.ensures)))

pub returns-in_err-found : goal.returns-in_err-found
returns-in_err-found g c =
    let p = err_from_is_err_and c.from_residual-in_err-found.result c.from_residual-in_err-found.ensures.1 in
    rw (p.1, p.2)
    (λ steps. arrived _ _ _ _ _ _ _ _ (opened _ _ _ _ _ _ c.in_ok-bytes.ensures)
    (arrived _ _ _ _ _ _ _ _ (described _ _ _ _ c.in_ok-graph.graph _ (rw c.deref.ensures.value at c.in_ok-graph.ensures))
    (arrived _ _ _ _ _ _ _ _ (opened _ _ _ _ _ _ c.in_ok-bits.ensures)
    (not_loaded _ _ _ _ _ _ _ _ (rw (c.deref-2.ensures.value, c.deref-3.ensures.value) at c.in_err-found.ensures)))))

pub returns-in_err-text : goal.returns-in_err-text
returns-in_err-text g c =
    let p = err_from_is_err_and c.from_residual-in_err-text.result c.from_residual-in_err-text.ensures.1 in
    rw (p.1, p.2)
    (λ steps. arrived _ _ _ _ _ _ _ _ (opened _ _ _ _ _ _ c.in_ok-bytes.ensures)
    (arrived _ _ _ _ _ _ _ _ (described _ _ _ _ c.in_ok-graph.graph _ (rw c.deref.ensures.value at c.in_ok-graph.ensures))
    (arrived _ _ _ _ _ _ _ _ (opened _ _ _ _ _ _ c.in_ok-bits.ensures)
    (arrived _ _ _ _ _ _ _ _ (loaded _ _ _ _ c.in_ok-graph.graph _ c.in_ok-found.found _ (rw (c.deref-2.ensures.value, c.deref-3.ensures.value) at c.in_ok-found.ensures))
    (not_opened _ _ _ _ _ _ c.in_err-text.ensures)))))

pub returns-in_err-numbers : goal.returns-in_err-numbers
returns-in_err-numbers g c =
    let p = err_from_is_err_and c.from_residual-in_err-numbers.result c.from_residual-in_err-numbers.ensures.1 in
    rw (p.1, p.2)
    (λ steps. arrived _ _ _ _ _ _ _ _ (opened _ _ _ _ _ _ c.in_ok-bytes.ensures)
    (arrived _ _ _ _ _ _ _ _ (described _ _ _ _ c.in_ok-graph.graph _ (rw c.deref.ensures.value at c.in_ok-graph.ensures))
    (arrived _ _ _ _ _ _ _ _ (opened _ _ _ _ _ _ c.in_ok-bits.ensures)
    (arrived _ _ _ _ _ _ _ _ (loaded _ _ _ _ c.in_ok-graph.graph _ c.in_ok-found.found _ (rw (c.deref-2.ensures.value, c.deref-3.ensures.value) at c.in_ok-found.ensures))
    (arrived _ _ _ _ _ _ _ _ (opened _ _ _ _ _ _ c.in_ok-text.ensures)
    (not_entered _ _ _ (table c.in_ok-graph.graph.desc) _ c.in_ok-text.text.items c.in_err-numbers.field-0.0
    (subst (λ p. IsNumbered c.args.input.now p c.in_ok-text.text.items (Err c.in_err-numbers.field-0.0)) (port_is _ _ _ c.in_ok-graph.graph.desc c.input_type.ensures.is c.typed.ensures c.checked.ensures) (rw c.deref-4.ensures.value at c.in_err-numbers.ensures))))))))

pub returns : goal.returns
returns g c = record {
  bytes = c.in_ok-bytes.bytes.items;
  bits = c.in_ok-bits.bits.items;
  entry = c.in_ok-text.text.items;
  is = rw (c.deref-2.ensures.value, c.deref-3.ensures.value) at c.in_ok-found.ensures;
  numbers_are = subst (λ p. numbers p c.in_ok-text.text.items ≡ Ok c.in_ok-numbers.numbers.items) (port_is _ _ _ c.in_ok-graph.graph.desc c.input_type.ensures.is c.typed.ensures c.checked.ensures) (rw c.deref-4.ensures.value at c.in_ok-numbers.ensures);
  whole = (rw c.deref.ensures.value at c.in_ok-graph.ensures).1;
  arrives = λ steps. both _ _ _ _ _ _ _ _ _ (opened _ _ _ _ _ _ c.in_ok-bytes.ensures)
      (both _ _ _ _ _ _ _ _ _ (described _ _ _ _ c.in_ok-graph.graph _ (rw c.deref.ensures.value at c.in_ok-graph.ensures))
      (both _ _ _ _ _ _ _ _ _ (opened _ _ _ _ _ _ c.in_ok-bits.ensures)
      (both _ _ _ _ _ _ _ _ _ (loaded _ _ _ _ c.in_ok-graph.graph _ c.in_ok-found.found _ (rw (c.deref-2.ensures.value, c.deref-3.ensures.value) at c.in_ok-found.ensures))
      (both _ _ _ _ _ _ _ _ _ (opened _ _ _ _ _ _ c.in_ok-text.ensures)
      (entered _ _ _ (table c.in_ok-graph.graph.desc) _ c.in_ok-text.text.items c.in_ok-numbers.numbers.items
      (subst (λ p. numbers p c.in_ok-text.text.items ≡ Ok c.in_ok-numbers.numbers.items) (port_is _ _ _ c.in_ok-graph.graph.desc c.input_type.ensures.is c.typed.ensures c.checked.ensures) (rw c.deref-4.ensures.value at c.in_ok-numbers.ensures)))))));
}
