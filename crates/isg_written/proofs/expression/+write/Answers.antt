use Rattle.std.proofs.Common.{rules, ◌≡◌, ◌∙◌, ◌<◌, ◌≤◌, ◌+◌, ◌*◌, sym, ap, subst, arith, refl}
use Rattle.std.specs.Prelude.{option_map}
use Rattle.nml_tree.specs.Depth.{depth}
use Rattle.nml_tree.specs.Formula.{formula, Neg, Inv, Not, Int, Card, Sat}
use Rattle.nml_tree.specs.Table.{table}
use Rattle.attr_eval.specs.Alone.{deepest, value_depth}
use Rattle.attr_eval.specs.Turn.{made_rule}
use Rattle.attr_eval.proofs.Values.{within_deepest}
use Rattle.isg_written.proofs.Deep.{less_deep}
use Rattle.isg_written.proofs.Steps.{no_limit}
use Rattle.isg_written.proofs.Gives.{named_node, indexed_node, paren_node, fitted_node, bits_node, choose_node, unary_node, binary_node, no_value, no_mode, picked_mode, made_none, made_some}
use Rattle.isg_written.proofs.Refers.{refer_none, refer_part, refer_field}
use Rattle.isg_written.proofs.expression.+write.Goals as goal

pub mode-returns-then-limit-eq0-clause-found : goal.mode-returns-then-limit-eq0-clause-found
mode-returns-then-limit-eq0-clause-found t c = no_value _ _ _ _ _ _ (λ d ks w. no_limit _ _ _ _ _ _ d refl w) c.put.ensures.found _ c.if-limit-eq0.true

pub mode-returns-in-Nothing-clause-found : goal.mode-returns-in-Nothing-clause-found
mode-returns-in-Nothing-clause-found t c = no_mode _ _ _ _ _ _ _ c.in-Nothing.ensures c.put-in-Nothing.ensures.found

pub mode-returns-in-Picked-clause-found : goal.mode-returns-in-Picked-clause-found
mode-returns-in-Picked-clause-found t c = picked_mode _ _ _ _ _ _ _ _ _ c.in-Picked.ensures c.mode.ensures.found

pub mode-returns-in-None-clause-found : goal.mode-returns-in-None-clause-found
mode-returns-in-None-clause-found t c = made_none _ _ (made_rule c.in-Made.rule) _ _ _ _ _ c.in-Made.ensures (ap (option_map (λ e. formula e.now)) c.in-None.is) c.put-in-None.ensures.found

pub mode-returns-in-Some-clause-found : goal.mode-returns-in-Some-clause-found
mode-returns-in-Some-clause-found t c = made_some _ c.requires.typed _ (made_rule c.in-Made.rule) _ _ _ _ c.in-Made.ensures (ap (option_map (λ e. formula e.now)) c.in-Some.is) refl refl c.expression.ensures.found

pub expression-returns-in-Named-clause-found : goal.expression-returns-in-Named-clause-found
expression-returns-in-Named-clause-found t c = named_node _ _ _ _ _ _ c.in-Named.ensures.is c.named.ensures.found

pub expression-returns-in-Indexed-clause-found : goal.expression-returns-in-Indexed-clause-found
expression-returns-in-Indexed-clause-found t c = indexed_node _ _ _ _ _ _ c.in-Indexed.ensures.is c.indexed.ensures.found

pub expression-returns-in-Paren-clause-found : goal.expression-returns-in-Paren-clause-found
expression-returns-in-Paren-clause-found t c = paren_node _ _ _ _ _ c.in-Paren.ensures.is c.expression.ensures.found

pub expression-returns-in-Int-clause-found : goal.expression-returns-in-Int-clause-found
expression-returns-in-Int-clause-found t c = fitted_node _ _ Int _ _ _ _ _ c.in-Int.ensures.is c.size.ensures c.unary.ensures.found

pub expression-returns-in-Card-clause-found : goal.expression-returns-in-Card-clause-found
expression-returns-in-Card-clause-found t c = fitted_node _ _ Card _ _ _ _ _ c.in-Card.ensures.is c.size-in-Card.ensures c.unary-in-Card.ensures.found

pub expression-returns-in-Sat-clause-found : goal.expression-returns-in-Sat-clause-found
expression-returns-in-Sat-clause-found t c = fitted_node _ _ Sat _ _ _ _ _ c.in-Sat.ensures.is c.size-in-Sat.ensures c.unary-in-Sat.ensures.found

pub expression-returns-in-Bits-clause-found : goal.expression-returns-in-Bits-clause-found
expression-returns-in-Bits-clause-found t c = bits_node _ _ _ _ _ _ _ _ _ c.in-Bits.ensures.is c.size-in-Bits.ensures c.size-in-Bits-2.ensures c.unary-in-Bits.ensures.found

pub expression-returns-in-Choose-clause-found : goal.expression-returns-in-Choose-clause-found
expression-returns-in-Choose-clause-found t c = choose_node _ _ _ _ _ _ _ c.in-Choose.ensures.is c.choose.ensures.found

pub expression-returns-in-Neg-clause-found : goal.expression-returns-in-Neg-clause-found
expression-returns-in-Neg-clause-found t c = unary_node _ _ Neg _ _ _ c.in-Neg.ensures.is c.unary-in-Neg.ensures.found

pub expression-returns-in-Inv-clause-found : goal.expression-returns-in-Inv-clause-found
expression-returns-in-Inv-clause-found t c = unary_node _ _ Inv _ _ _ c.in-Inv.ensures.is c.unary-in-Inv.ensures.found

pub expression-returns-in-Not-clause-found : goal.expression-returns-in-Not-clause-found
expression-returns-in-Not-clause-found t c = unary_node _ _ Not _ _ _ c.in-Not.ensures.is c.unary-in-Not.ensures.found

pub expression-returns-in-Binary-clause-found : goal.expression-returns-in-Binary-clause-found
expression-returns-in-Binary-clause-found t c = binary_node _ _ _ _ _ _ _ c.in-Binary.ensures.is c.binary.ensures.found

pub mode-expression-requires : goal.mode-expression-requires
mode-expression-requires t c =
    let is : c.args.limit * (3 * deepest (table c.args.numbered.now) + 5) ≡ t = c.decreases in
    let one = ap (option_map (λ e. formula e.now)) c.in-Some.is in
    let low : depth (formula c.in-Some.e.now) ≤ deepest (table c.args.numbered.now) = subst (λ o. value_depth o ≤ deepest (table c.args.numbered.now)) one (within_deepest _ c.args.name.now _ c.in-Made.ensures) in
    let some : 0 < c.args.limit = omega arith in
    (rw (← is) (less_deep c.args.limit _ _ some low), (c.requires.typed, c.requires.falls))

pub named-returns-in-None-clause-found : goal.named-returns-in-None-clause-found
named-returns-in-None-clause-found t c = refer_none _ _ _ _ _ _ (rw c.as_bytes.ensures at c.in-None.ensures) c.declared_node.ensures.found

pub named-returns-in-Some-part_of-clause-found : goal.named-returns-in-Some-part_of-clause-found
named-returns-in-Some-part_of-clause-found t c = refer_part _ _ _ _ _ _ _ c.in-Some.k _ _ _ (rw c.as_bytes.ensures at c.in-Some.ensures) c.in-Some-part_of.ensures c.skip_pars-first.ensures c.mode.ensures.found

pub named-returns-in-None-part_of-clause-found : goal.named-returns-in-None-part_of-clause-found
named-returns-in-None-part_of-clause-found t c = refer_field _ _ _ _ _ _ c.in-Some.k _ _ _ (rw c.as_bytes.ensures at c.in-Some.ensures) c.in-None-part_of.ensures c.skip_pars-first.ensures c.put.ensures.found
