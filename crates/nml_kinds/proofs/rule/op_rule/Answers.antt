use Rattle.std.proofs.Common.{None, refl}
use Rattle.nml_kinds.proofs.Rules.{rule_noted, rule_width_noted}
use Rattle.nml_kinds.proofs.rule.op_rule.Goals as goal

pub returns-clause-kind : goal.returns-clause-kind
returns-clause-kind c =
    rule_noted c.args.g.now.names.now c.args.r.now.pars None c.args.r.now.attrs c.args.found.kind c.parameters.result c.parameters.result c.attributes.result.kind
    c.parameters.ensures refl (rw c.in_ok-scope.ensures at c.attributes.ensures.kind)

pub returns-clause-width : goal.returns-clause-width
returns-clause-width c =
    rule_width_noted c.args.g.now.names.now c.args.r.now.pars None c.args.r.now.attrs c.args.found.width c.args.found.width c.attributes.result.width
    refl (rw c.in_ok-scope.ensures at c.attributes.ensures.width)
