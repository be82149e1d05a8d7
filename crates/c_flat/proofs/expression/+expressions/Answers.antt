use Rattle.std.proofs.Common.{rules, map, ◌≡◌}
use Rattle.c_tree.specs.Formula.{formula, further}
use Rattle.c_tree.specs.Program.{More}
use Rattle.c_tree.specs.Resolve.{term, terms, called}
use Rattle.c_tree.specs.Names.{callee}
use Rattle.c_tree.proofs.FormulaLaws.{formula_laws, formula-Call_with}
use Rattle.c_names.specs.Shown.{names}
use Rattle.c_flat.specs.declared.chain.Chain.TheVariants as chain
use Rattle.c_flat.specs.Written.{OfTerm}
use Rattle.c_flat.specs.Listing.{over}
use Rattle.c_flat.proofs.Chained.{over_ok, both_ok, called_ok, listed_ok, listed_more}
use Rattle.c_flat.proofs.Terms.{further_step, further_end}
use Rattle.c_flat.proofs.expression.+expressions.Goals as goal

pub push_expression-returns-in_ok-right-in-OrElse : goal.push_expression-returns-in_ok-right-in-OrElse
push_expression-returns-in_ok-right-in-OrElse t c =
    let is : over (formula c.args.e.now) (term (names c.args.scopes.now) (formula c.in-OrElse.x)) (term (names c.args.scopes.now) (formula c.in-OrElse.y)) ≡ term (names c.args.scopes.now) (formula c.args.e.now) = search (rules, formula_laws) in
    rw (← is) (both_ok c.args.nodes.now.items _ _ _ _ _ _ c.over_node.result c.in_ok-left-in-OrElse.left c.in_ok-right-in-OrElse.right c.push_node-in-OrElse.result (rw c.get-in-OrElse.ensures at c.in_ok-left-in-OrElse.ensures) (rw c.get-in-OrElse-2.ensures at c.in_ok-right-in-OrElse.ensures) c.push_node-in-OrElse.ensures (λ f p q. c.over_node.ensures.is f _ _ p q))

pub push_expression-returns-in_ok-part-in-Neg : goal.push_expression-returns-in_ok-part-in-Neg
push_expression-returns-in_ok-part-in-Neg t c =
    let is : over (formula c.args.e.now) (term (names c.args.scopes.now) (formula c.in-Neg.x)) (term (names c.args.scopes.now) (formula c.in-Neg.x)) ≡ term (names c.args.scopes.now) (formula c.args.e.now) = search (rules, formula_laws) in
    rw (← is) (over_ok c.args.nodes.now.items _ _ _ _ c.over_node-in-Neg.result c.in_ok-part-in-Neg.part c.push_node-in-Neg.result (rw c.get-in-Neg.ensures at c.in_ok-part-in-Neg.ensures) c.push_node-in-Neg.ensures (λ f p. c.over_node-in-Neg.ensures.is f _ _ p p))

pub push_expression-returns-in_ok-xs-in-Some-arguments : goal.push_expression-returns-in_ok-xs-in-Some-arguments
push_expression-returns-in_ok-xs-in-Some-arguments t c =
    rw (c.in-Call.is, c.in-Some-arguments.is, formula-Call_with) (called_ok c.args.nodes.now.items _ _ _ (term (names c.args.scopes.now) (formula c.in-Some-arguments.first)) (terms (names c.args.scopes.now) (further (map (λ (comma, y). (comma, formula y)) c.in-Some-arguments.rest))) (λ x xs. OfTerm (called (callee (names c.args.scopes.now) c.in-Call.name.text) (More x xs))) c.in_ok-x-in-Some-arguments.x c.in_ok-xs-in-Some-arguments.xs c.push_called_with.result (rw c.get-in-Some-arguments.ensures at c.in_ok-x-in-Some-arguments.ensures) (rw c.as_slice-others.ensures at c.in_ok-xs-in-Some-arguments.ensures) (rw c.callee-in-Some-arguments.ensures at c.push_called_with.ensures))

pub push_further-loop-one-preserved : goal.push_further-loop-one-preserved
push_further-loop-one-preserved t c =
    rw c.in_ok-push.ensures.items (listed_more chain.Arguments _ c.loop-one.nodes.items _ c.loop-one.numbers.items c.in_ok-push_expression.field-0 _ _ _ _ c.loop-one.invariant c.in_ok-push_expression.ensures (further_step (names c.args.scopes.now) c.args.rest.now c.loop-one.one-index c.loop-one-item.result c.loop-one-test.true c.loop-one-item.is))

pub push_further-returns : goal.push_further-returns
push_further-returns t c =
    listed_ok chain.Arguments c.args.nodes.now.items c.loop-one.nodes.items c.push_list.new.nodes.items c.loop-one.numbers.items _ c.push_list.result (rw (further_end (names c.args.scopes.now) c.args.rest.now c.loop-one.one-index c.loop-one-test.false) at c.loop-one.invariant) c.push_list.ensures
