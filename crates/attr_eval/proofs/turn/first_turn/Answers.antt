use Rattle.std.proofs.Common.{◌∙◌, ap, [], Some, None}
use Rattle.nml_tree.specs.Table.{type_or_none, entries, entry}
use Rattle.attr_eval.proofs.Steps.{no_rule, no_picks, no_alternative, port_no_rule}
use Rattle.attr_eval.proofs.turn.first_turn.Goals as goal

pub returns-in-None : goal.returns-in-None
returns-in-None c = λ d ks h p. no_rule _ _ None d c.in-None.ensures.none tt h

pub returns-in-None-split_first : goal.returns-in-None-split_first
returns-in-None-split_first c = λ d ks h p. no_picks _ _ _ _ _ ks d (c.in-Some.ensures.none ∙ ap (λ i. Some (entry (entries [] c.in-Some.field-0-0.now) i).1) c.in-OrRule.is) c.in-None-split_first.ensures.cases h p

pub returns-in-None-name_at : goal.returns-in-None-name_at
returns-in-None-name_at c = λ d ks h p. no_alternative _ _ _ _ _ ks d _ _ (c.in-Some.ensures.none ∙ ap (λ i. Some (entry (entries [] c.in-Some.field-0-0.now) i).1) c.in-OrRule.is) c.in-Some-split_first.ensures.cases.0 c.in-None-name_at.ensures h p

pub returns-in-Let : goal.returns-in-Let
returns-in-Let c = λ d ks h p. no_rule _ _ _ d (c.in-Some.ensures.none ∙ ap (λ i. Some (entry (entries [] c.in-Some.field-0-0.now) i).1) c.in-Let.is) tt h

pub returns-in-Type : goal.returns-in-Type
returns-in-Type c = λ d ks h p. no_rule _ _ _ d (c.in-Some.ensures.none ∙ ap (λ i. Some (entry (entries [] c.in-Some.field-0-0.now) i).1) c.in-Type.is) tt h

pub returns-in-Storage : goal.returns-in-Storage
returns-in-Storage c = λ d ks h p. no_rule _ _ _ d (c.in-Some.ensures.none ∙ ap (λ i. Some (entry (entries [] c.in-Some.field-0-0.now) i).1) c.in-Storage.is) tt h

pub returns-in-Port : goal.returns-in-Port
returns-in-Port c = λ d ks h p. no_rule _ _ _ d (c.in-Some.ensures.none ∙ ap (λ i. Some (entry (entries [] c.in-Some.field-0-0.now) i).1) c.in-Port.is) (port_no_rule (entries [] c.in-Some.field-0-0.now) c.in-Port.field-0.word (type_or_none (entries [] c.in-Some.field-0-0.now) c.in-Port.field-0.ty)) h
