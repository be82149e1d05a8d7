use Rattle.nml_tree.specs.SpellItems.{arg_spelling}
use Rattle.nml_tree.proofs.EndedLaws.{loop_step}
use Rattle.nml_tree.proofs.spell_attrs.push_args.Goals as goal

pub loop-arg-preserved : goal.loop-arg-preserved
loop-arg-preserved c = loop_step arg_spelling c.args.args.now c.loop-arg.arg-index c.loop-arg-item.result c.loop-arg.text _ _ c.loop-arg-test.true c.loop-arg-item.is c.loop-arg.invariant (c.in_ok-push_arg.ensures c.loop-arg-item.result.0)
