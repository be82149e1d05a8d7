use Rattle.std.proofs.Common.{◌∙◌, sym, ap}
use Rattle.nml_tree.specs.Table.{parameter_of, table}
use Rattle.shape_list.proofs.Bodies.{no_part}
use Rattle.shape_list.proofs.rule.part_of.Goals as goal

pub returns-else-is_rule : goal.returns-else-is_rule
returns-else-is_rule c = λ rule h. no_part _ _ rule (sym (c.is_rule.ensures _ c.declared.ensures) ∙ c.if-is_rule.false) (ap (parameter_of (table c.args.names.now)) (sym c.in-Name.is) ∙ h)
