use Rattle.std.proofs.Common.{refl}
use Rattle.c_tree.specs.Statement.{variable}
use Rattle.c_tree.specs.Names.{behind_variable, behind_variables}
use Rattle.c_tree.specs.Faults.{variables_faults}
use Rattle.c_tree.specs.Recursion.{variables_callees}
use Rattle.c_names.specs.Shown.{names}
use Rattle.c_walk.specs.Walk.{listed}
use Rattle.c_check.proofs.WalkLaws.{loop_found, loop_calls}
use Rattle.c_walk.proofs.Loops.{loop_any}
use Rattle.c_check.proofs.declaration.further_locals.Goals as goal

pub loop-one-preserved : goal.loop-one-preserved
loop-one-preserved c = rw c.in_ok-local.ensures.scopes (
  loop_any (λ ys. behind_variables (names c.loop-one.scopes) (listed ys)) (λ ys. behind_variables (behind_variable (names c.loop-one.scopes) (variable c.loop-one-item.result.1)) (listed ys)) c.args.rest.now c.loop-one.one-index c.loop-one-item.result _ (λ ys. refl) c.loop-one-test.true c.loop-one-item.is c.loop-one.invariant.0,
  loop_found (λ ys. variables_faults c.args.width.bits (names c.loop-one.scopes) (listed ys)) (λ ys. variables_faults c.args.width.bits (behind_variable (names c.loop-one.scopes) (variable c.loop-one-item.result.1)) (listed ys)) _ c.args.rest.now c.loop-one.one-index c.loop-one-item.result c.loop-one.notes.found _ _ (λ ys. refl) c.loop-one-test.true c.loop-one-item.is c.loop-one.invariant.1 c.in_ok-local.ensures.found,
  loop_calls (λ ys. variables_callees (names c.loop-one.scopes) (listed ys)) (λ ys. variables_callees (behind_variable (names c.loop-one.scopes) (variable c.loop-one-item.result.1)) (listed ys)) _ c.args.rest.now c.loop-one.one-index c.loop-one-item.result c.loop-one.notes.calls.items _ _ (λ ys. refl) c.loop-one-test.true c.loop-one-item.is c.loop-one.invariant.2 c.in_ok-local.ensures.calls,
)
