use Rattle.std.proofs.Common.{refl, map}
use Rattle.c_tree.specs.Formula.{formula, further}
use Rattle.c_tree.specs.Spell.{formula_spelling, further_spelling}
use Rattle.c_tree.proofs.FormulaLaws.{formula-Call_with}
use Rattle.c_tree.proofs.EndedLaws.{loop_comma, called_with}
use Rattle.c_tree.proofs.spell_expr.+expressions.Goals as goal

pub push_expr-returns-in_ok-push_further-in-Some-arguments : goal.push_expr-returns-in_ok-push_further-in-Some-arguments
push_expr-returns-in_ok-push_further-in-Some-arguments t c =
    let whole = called_with c.in-Call.name c.in-Call.field-1 (formula c.in-Some-arguments.first) (further (map (λ (comma, y). (comma, formula y)) c.in-Some-arguments.rest)) c.in-Call.field-3 c.args.text.now _ _ _ _ c.in_ok-push_name-in-Some-arguments.ensures c.in_ok-push_word-in-Some-arguments.ensures (rw c.get-in-Some-arguments.ensures at c.in_ok-push_expr-in-Some-arguments.ensures) (rw c.as_slice.ensures at c.in_ok-push_further-in-Some-arguments.ensures) in
    rw (c.in-Call.is, c.in-Some-arguments.is, formula-Call_with, ← whole) c.push_word-in-Some-arguments-2.ensures

pub push_further-loop-one-preserved : goal.push_further-loop-one-preserved
push_further-loop-one-preserved t c = loop_comma (λ y. formula_spelling (formula y)) (λ ys. further_spelling (further (map (λ (comma, y). (comma, formula y)) ys))) (λ x xs. refl) c.args.rest.now c.loop-one.one-index c.loop-one-item.result c.loop-one.text _ _ _ c.loop-one-test.true c.loop-one-item.is c.loop-one.invariant c.in_ok-push_word.ensures c.in_ok-push_expr.ensures
