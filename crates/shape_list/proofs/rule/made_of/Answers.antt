use Rattle.std.proofs.Common.{ap, Some}
use Rattle.nml_tree.specs.Formula.{formula}
use Rattle.nml_tree.specs.Table.{entry}
use Rattle.shape_list.proofs.rule.made_of.Goals as goal

pub returns-in-ModeRule : goal.returns-in-ModeRule
returns-in-ModeRule c = λ t. (Some (formula c.in-ModeRule.rule.value), ap (λ i. Some (entry t i).1) c.in-ModeRule.is)
