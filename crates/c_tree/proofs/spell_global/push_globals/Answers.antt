use Rattle.std.proofs.Common.{refl, map}
use Rattle.c_tree.specs.Items.{item}
use Rattle.c_tree.specs.SpellGlobals.{item_spelling, spelling}
use Rattle.c_tree.proofs.EndedLaws.{loop_on}
use Rattle.c_tree.proofs.spell_global.push_globals.Goals as goal

pub loop-one-preserved : goal.loop-one-preserved
loop-one-preserved c = loop_on (λ g. item_spelling (item g)) (λ ys. spelling (map item ys)) (λ x xs. refl) c.args.globals.now c.loop-one.one-index c.one-item.result c.loop-one.text _ _ c.loop-one-test.true c.one-item.is c.loop-one.invariant c.in_ok-push_global.ensures
