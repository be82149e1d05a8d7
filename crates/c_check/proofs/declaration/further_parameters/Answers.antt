use Rattle.std.proofs.Common.{refl, ◌∙◌, ◌∷◌, []}
use Rattle.c_tree.specs.Names.{behind_parameters}
use Rattle.c_tree.specs.Faults.{params_faults}
use Rattle.c_names.specs.Shown.{names}
use Rattle.c_walk.specs.Walk.{further_params}
use Rattle.c_check.proofs.WalkLaws.{loop_found}
use Rattle.c_walk.proofs.Loops.{loop_any}
use Rattle.c_check.proofs.declaration.further_parameters.Goals as goal

pub loop-one-preserved : goal.loop-one-preserved
loop-one-preserved c = rw c.in_ok-parameter.ensures.scopes (
  loop_any (λ ys. behind_parameters (names c.loop-one.scopes) (further_params ys)) (λ ys. behind_parameters (behind_parameters (names c.loop-one.scopes) (c.loop-one-item.result.1 ∷ [])) (further_params ys)) c.args.rest.now c.loop-one.one-index c.loop-one-item.result _ (λ ys. refl) c.loop-one-test.true c.loop-one-item.is c.loop-one.invariant.0,
  loop_found (λ ys. params_faults (names c.loop-one.scopes) (further_params ys)) (λ ys. params_faults (behind_parameters (names c.loop-one.scopes) (c.loop-one-item.result.1 ∷ [])) (further_params ys)) _ c.args.rest.now c.loop-one.one-index c.loop-one-item.result c.loop-one.notes.found _ _ (λ ys. refl) c.loop-one-test.true c.loop-one-item.is c.loop-one.invariant.1 c.in_ok-parameter.ensures.found,
  c.in_ok-parameter.ensures.calls ∙ c.loop-one.invariant.2,
)
