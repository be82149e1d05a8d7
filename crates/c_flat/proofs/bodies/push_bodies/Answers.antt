use Rattle.std.proofs.Common.{◌∙◌, ap, ap₂, Bool, ℕ}
use Rattle.c_tree.specs.Names.{before_body}
use Rattle.c_tree.specs.Resolve.{commands, body_of}
use Rattle.c_tree.specs.Statement.{block}
use Rattle.c_names.specs.Shown.{names}
use Rattle.c_walk.specs.Walk.{defined}
use Rattle.c_flat.specs.Written.{Written, OfCommand}
use Rattle.c_flat.specs.Listing.{Outline}
use Rattle.c_flat.proofs.AllBodies.{vars_step, function_step, standing_more, outline_in}
use Rattle.c_flat.proofs.bodies.push_bodies.Goals as goal
use Rattle.c_flat.proofs.bodies.push_bodies.Goals.{in-Vars+in_ok-declare_variables-in-Vars, in-Function+in_ok-body-in-Function+in_ok-push-in-Function}

pub loop-one-preserved : goal.loop-one-preserved
loop-one-preserved c = elim c.match-one.branch [
  | in-Vars+in_ok-declare_variables-in-Vars w ↦
      let step = vars_step (names c.loop-one.scopes) (names w.declare_variables.new.scopes) c.args.globals.now c.loop-one.one-index c.one-item.result w.in-Vars.vars c.loop-one-test.true c.one-item.is w.in-Vars.is w.in_ok-declare_variables-in-Vars.ensures in
      rw (w.nodes-is, w.scopes-is, w.bodies-is, step) c.loop-one.invariant
  | in-Function+in_ok-body-in-Function+in_ok-push-in-Function w ↦
      let b = w.in_ok-body-in-Function.body in
      let e = w.in_ok-body-in-Function.ensures in
      let w' = OfCommand (commands (before_body (names c.loop-one.scopes) (defined w.in-Function.function)) (body_of (block w.in-Function.function.body))) in
      rw (w.nodes-is, w.scopes-is, w.bodies-is, w.in_ok-push-in-Function.ensures.items) (standing_more _ c.loop-one.nodes.items _ c.loop-one.bodies.items b w' (outline_in (names c.loop-one.scopes) w.in-Function.function) _ _ _ c.loop-one.invariant e.nodes (ap₂ {A = Bool} {B = ℕ} (λ m k. (m, (w', k))) e.main e.cells) (function_step (names c.loop-one.scopes) (names w.push_function.new.scopes) c.args.globals.now c.loop-one.one-index c.one-item.result w.in-Function.function c.loop-one-test.true c.one-item.is w.in-Function.is e.scopes))
]
