use Rattle.nml_tree.specs.SpellItems.{further_name_spelling}
use Rattle.nml_tree.proofs.EndedLaws.{loop_step}
use Rattle.nml_tree.proofs.spell_item.push_further_names.Goals as goal

pub loop-name-preserved : goal.loop-name-preserved
loop-name-preserved c = loop_step further_name_spelling c.args.names.now c.loop-name.name-index c.loop-name-item.result c.loop-name.text _ _ c.loop-name-test.true c.loop-name-item.is c.loop-name.invariant (c.in_ok-push_further_name.ensures c.loop-name-item.result.0)
