use Rattle.std.proofs.Common.{refl, map, true}
use Rattle.c_tree.specs.Formula.{formula, further}
use Rattle.c_tree.specs.Faults.{further_faults}
use Rattle.c_tree.specs.Recursion.{further_callees}
use Rattle.c_tree.proofs.FormulaLaws.{formula-Call_with}
use Rattle.c_names.specs.Shown.{names}
use Rattle.c_check.proofs.WalkLaws.{called_found, called_calls, loop_found, loop_calls}
use Rattle.c_check.proofs.expression.+expressions.Goals as goal

pub expression-returns-in_ok-expression-in-Some-arguments-clause-found : goal.expression-returns-in_ok-expression-in-Some-arguments-clause-found
expression-returns-in_ok-expression-in-Some-arguments-clause-found t c =
    let whole = called_found c.args.width.bits (names c.args.scopes.now) c.in-Call.name (formula c.in-Some-arguments.first) (further (map (λ (comma, y). (comma, formula y)) c.in-Some-arguments.rest)) true _ c.args.notes.now.found _ _ (rw c.as_slice-others.ensures at c.with_first.ensures) c.in_ok-call-in-Some-arguments.ensures.found (rw c.get-in-Some-arguments.ensures at c.in_ok-expression-in-Some-arguments.ensures.found) in
    rw (c.in-Call.is, c.in-Some-arguments.is, formula-Call_with, ← whole, ← c.as_slice-others.ensures) c.further_arguments.ensures.found

pub expression-returns-in_ok-expression-in-Some-arguments-clause-calls : goal.expression-returns-in_ok-expression-in-Some-arguments-clause-calls
expression-returns-in_ok-expression-in-Some-arguments-clause-calls t c =
    let whole = called_calls (names c.args.scopes.now) c.in-Call.name (formula c.in-Some-arguments.first) (further (map (λ (comma, y). (comma, formula y)) c.in-Some-arguments.rest)) c.args.notes.now.calls.items _ _ c.in_ok-call-in-Some-arguments.ensures.calls (rw c.get-in-Some-arguments.ensures at c.in_ok-expression-in-Some-arguments.ensures.calls) in
    rw (c.in-Call.is, c.in-Some-arguments.is, formula-Call_with, ← whole, ← c.as_slice-others.ensures) c.further_arguments.ensures.calls

pub further_arguments-loop-one-preserved : goal.further_arguments-loop-one-preserved
further_arguments-loop-one-preserved t c = (
  loop_found (λ ys. further_faults c.args.width.bits (names c.args.scopes.now) (further (map (λ (comma, y). (comma, formula y)) ys))) (λ ys. further_faults c.args.width.bits (names c.args.scopes.now) (further (map (λ (comma, y). (comma, formula y)) ys))) _ c.args.rest.now c.loop-one.one-index c.loop-one-item.result c.loop-one.notes.found _ _ (λ ys. refl) c.loop-one-test.true c.loop-one-item.is c.loop-one.invariant.0 c.in_ok-expression.ensures.found,
  loop_calls (λ ys. further_callees (names c.args.scopes.now) (further (map (λ (comma, y). (comma, formula y)) ys))) (λ ys. further_callees (names c.args.scopes.now) (further (map (λ (comma, y). (comma, formula y)) ys))) _ c.args.rest.now c.loop-one.one-index c.loop-one-item.result c.loop-one.notes.calls.items _ _ (λ ys. refl) c.loop-one-test.true c.loop-one-item.is c.loop-one.invariant.1 c.in_ok-expression.ensures.calls,
)
