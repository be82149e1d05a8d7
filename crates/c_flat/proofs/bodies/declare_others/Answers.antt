use Rattle.std.proofs.Common.{refl}
use Rattle.c_tree.specs.Names.{behind_gvar, behind_gvars}
use Rattle.c_names.specs.Shown.{names}
use Rattle.c_walk.specs.Walk.{further_gvars}
use Rattle.c_walk.proofs.Loops.{loop_any}
use Rattle.c_flat.proofs.bodies.declare_others.Goals as goal

pub loop-one-preserved : goal.loop-one-preserved
loop-one-preserved c = rw c.in_ok-declare_variable.ensures (loop_any (λ ys. behind_gvars (names c.loop-one.scopes) (further_gvars ys)) (λ ys. behind_gvars (behind_gvar (names c.loop-one.scopes) c.loop-one-item.result.1) (further_gvars ys)) c.args.rest.now c.loop-one.one-index c.loop-one-item.result _ (λ ys. refl) c.loop-one-test.true c.loop-one-item.is c.loop-one.invariant)
