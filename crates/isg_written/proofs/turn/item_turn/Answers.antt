use Rattle.std.proofs.Common.{◌∙◌, ap, Some}
use Rattle.nml_tree.specs.Table.{type_or_none, entry}
use Rattle.attr_eval.proofs.Steps.{no_rule, no_picks, no_alternative, port_no_rule}
use Rattle.isg_written.proofs.turn.item_turn.Goals as goal

pub returns-in-None : goal.returns-in-None
returns-in-None c = λ t u name is d ks h p. no_picks _ _ _ _ _ ks d (is ∙ ap (λ i. Some (entry u i).1) c.in-OrRule.is) c.in-None.ensures.cases h p

pub returns-in-None-name_at : goal.returns-in-None-name_at
returns-in-None-name_at c = λ t u name is d ks h p. no_alternative _ _ _ _ _ ks d _ _ (is ∙ ap (λ i. Some (entry u i).1) c.in-OrRule.is) c.in-Some.ensures.cases.0 c.in-None-name_at.ensures h p

pub returns-in-Let : goal.returns-in-Let
returns-in-Let c = λ t u name is d ks h p. no_rule _ _ _ d (is ∙ ap (λ i. Some (entry u i).1) c.in-Let.is) tt h

pub returns-in-Type : goal.returns-in-Type
returns-in-Type c = λ t u name is d ks h p. no_rule _ _ _ d (is ∙ ap (λ i. Some (entry u i).1) c.in-Type.is) tt h

pub returns-in-Storage : goal.returns-in-Storage
returns-in-Storage c = λ t u name is d ks h p. no_rule _ _ _ d (is ∙ ap (λ i. Some (entry u i).1) c.in-Storage.is) tt h

pub returns-in-Port : goal.returns-in-Port
returns-in-Port c = λ t u name is d ks h p. no_rule _ _ _ d (is ∙ ap (λ i. Some (entry u i).1) c.in-Port.is) (port_no_rule u c.in-Port.field-0.word (type_or_none u c.in-Port.field-0.ty)) h
