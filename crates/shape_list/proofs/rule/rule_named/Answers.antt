use Rattle.shape_list.proofs.Bodies.{no_number, numbered_body, past_items}
use Rattle.shape_list.proofs.rule.rule_named.Goals as goal

pub returns-in-None : goal.returns-in-None
returns-in-None c = no_number c.args.names.now c.args.name.now c.in-None.ensures

pub returns-in-None-get : goal.returns-in-None-get
returns-in-None-get c = absurd (past_items _ _ _ _ c.in-Some.ensures c.items.ensures c.in-None-get.ensures.lookup.3)

pub returns-in-Some-get : goal.returns-in-Some-get
returns-in-Some-get c = let a = c.in-Some-get.ensures.lookup in numbered_body _ _ _ _ _ _ c.in-Some.ensures c.items.ensures a.3.0 a.1 c.made_of.ensures
