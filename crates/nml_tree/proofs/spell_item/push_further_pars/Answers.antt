use Rattle.nml_tree.specs.SpellItems.{further_par_spelling}
use Rattle.nml_tree.proofs.EndedLaws.{loop_step}
use Rattle.nml_tree.proofs.spell_item.push_further_pars.Goals as goal

pub loop-par-preserved : goal.loop-par-preserved
loop-par-preserved c = loop_step further_par_spelling c.args.pars.now c.loop-par.par-index c.loop-par-item.result c.loop-par.text _ _ c.loop-par-test.true c.loop-par-item.is c.loop-par.invariant (c.in_ok-push_further_par.ensures c.loop-par-item.result.0)
