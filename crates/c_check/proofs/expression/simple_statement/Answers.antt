use Rattle.std.proofs.Common.{map, false}
use Rattle.c_tree.specs.Formula.{formula, further}
use Rattle.c_names.specs.Shown.{names}
use Rattle.c_check.proofs.WalkLaws.{called_found, called_calls}
use Rattle.c_check.proofs.expression.simple_statement.Goals as goal

pub returns-in_ok-expression-in-Some-clause-found : goal.returns-in_ok-expression-in-Some-clause-found
returns-in_ok-expression-in-Some-clause-found c =
    let whole = called_found c.args.width.bits (names c.args.scopes.now) c.in-Call.name (formula c.in-Some.first) (further (map (λ (comma, y). (comma, formula y)) c.in-Some.rest)) false _ c.args.notes.now.found _ _ (rw c.as_slice-others.ensures at c.with_first.ensures) c.in_ok-call-in-Some.ensures.found c.in_ok-expression-in-Some.ensures.found in
    rw (c.in-Call.is, c.in-Some.is, ← whole, ← c.as_slice-others.ensures) c.further_arguments.ensures.found

pub returns-in_ok-expression-in-Some-clause-calls : goal.returns-in_ok-expression-in-Some-clause-calls
returns-in_ok-expression-in-Some-clause-calls c =
    let whole = called_calls (names c.args.scopes.now) c.in-Call.name (formula c.in-Some.first) (further (map (λ (comma, y). (comma, formula y)) c.in-Some.rest)) c.args.notes.now.calls.items _ _ c.in_ok-call-in-Some.ensures.calls c.in_ok-expression-in-Some.ensures.calls in
    rw (c.in-Call.is, c.in-Some.is, ← whole, ← c.as_slice-others.ensures) c.further_arguments.ensures.calls
