use Rattle.std.proofs.Common.{refl}
use Rattle.c_tree.specs.SpellGlobals.{gvar_spelling, further_gvars_spelling}
use Rattle.c_tree.proofs.EndedLaws.{loop_comma}
use Rattle.c_tree.proofs.spell_global.push_gvars.Goals as goal

pub loop-one-preserved : goal.loop-one-preserved
loop-one-preserved c = loop_comma gvar_spelling further_gvars_spelling (λ x xs. refl) c.args.rest.now c.loop-one.one-index c.loop-one-item.result c.loop-one.text _ _ _ c.loop-one-test.true c.loop-one-item.is c.loop-one.invariant c.in_ok-push_word.ensures c.in_ok-push_gvar.ensures
