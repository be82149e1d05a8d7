use Rattle.std.proofs.Common.{Some}
use Rattle.nml_tree.specs.Formula.{formula}
use Rattle.nml_kinds.proofs.Rules.{rule_noted, rule_width_noted}
use Rattle.nml_kinds.proofs.rule.mode_rule.Goals as goal

pub returns-clause-kind : goal.returns-clause-kind
returns-clause-kind c =
    rule_noted c.args.g.now.names.now c.args.r.now.pars (Some (formula c.args.r.now.value)) c.args.r.now.attrs c.args.found.kind c.parameters.result c.value-found.result.kind c.attributes.result.kind
    c.parameters.ensures (rw c.in_ok-scope.ensures at c.value-found.ensures.kind) (rw c.in_ok-scope.ensures at c.attributes.ensures.kind)

pub returns-clause-width : goal.returns-clause-width
returns-clause-width c =
    rule_width_noted c.args.g.now.names.now c.args.r.now.pars (Some (formula c.args.r.now.value)) c.args.r.now.attrs c.args.found.width c.value-found.result.width c.attributes.result.width
    (rw c.in_ok-scope.ensures at c.value-found.ensures.width) (rw c.in_ok-scope.ensures at c.attributes.ensures.width)
