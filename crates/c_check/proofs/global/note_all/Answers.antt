use Rattle.std.proofs.Common.{refl, map, ◌++◌}
use Rattle.c_tree.specs.Items.{item}
use Rattle.c_tree.specs.Names.{behind_global}
use Rattle.c_tree.specs.Faults.{globals_faults}
use Rattle.c_tree.specs.Recursion.{graph}
use Rattle.c_names.specs.Shown.{names}
use Rattle.c_check.proofs.WalkLaws.{loop_found}
use Rattle.c_walk.proofs.Loops.{loop_any}
use Rattle.c_check.proofs.global.note_all.Goals as goal

pub loop-one-preserved : goal.loop-one-preserved
loop-one-preserved c = (
  rw c.in_ok-one_global.ensures.scopes (loop_found (λ ys. globals_faults c.args.width.bits (names c.loop-one.scopes) (map item ys)) (λ ys. globals_faults c.args.width.bits (behind_global (names c.loop-one.scopes) (item c.one-item.result)) (map item ys)) _ c.args.globals.now c.loop-one.one-index c.one-item.result c.loop-one.notes.found _ _ (λ ys. refl) c.loop-one-test.true c.one-item.is c.loop-one.invariant.0 c.in_ok-one_global.ensures.found),
  loop_any (λ ys. c.loop-one.rows.items ++ graph (names c.loop-one.scopes) (map item ys)) (λ ys. c.one_global.new.rows.items ++ graph (names c.one_global.new.scopes) (map item ys)) c.args.globals.now c.loop-one.one-index c.one-item.result _ (λ ys. c.in_ok-one_global.ensures.rows (map item ys)) c.loop-one-test.true c.one-item.is c.loop-one.invariant.1,
)
