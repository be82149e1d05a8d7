use Rattle.nml_tree.specs.SpellItems.{item_spelling}
use Rattle.nml_tree.proofs.EndedLaws.{loop_step}
use Rattle.nml_tree.proofs.spell_item.push_items.Goals as goal

pub loop-item-preserved : goal.loop-item-preserved
loop-item-preserved c = loop_step item_spelling c.args.items.now c.loop-item.item-index c.item-item.result c.loop-item.text _ _ c.loop-item-test.true c.item-item.is c.loop-item.invariant c.in_ok-push_item.ensures
