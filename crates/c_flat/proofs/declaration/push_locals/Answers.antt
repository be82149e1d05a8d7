use Rattle.c_tree.specs.Statement.{variable}
use Rattle.c_tree.specs.Names.{behind_variable, behind_variables}
use Rattle.std.proofs.Common.{refl}
use Rattle.c_names.specs.Shown.{names}
use Rattle.c_walk.specs.Walk.{listed}
use Rattle.c_walk.proofs.Loops.{loop_any}
use Rattle.c_flat.specs.declared.chain.Chain.TheVariants as chain
use Rattle.c_flat.proofs.Chained.{listed_more, listed_ok}
use Rattle.c_flat.proofs.Commands.{locals_step, locals_end}
use Rattle.c_flat.proofs.declaration.push_locals.Goals as goal

pub loop-one-preserved : goal.loop-one-preserved
loop-one-preserved c = rw c.in_ok-number.ensures.scopes (
  loop_any (λ ys. behind_variables (names c.loop-one.scopes) (listed ys)) (λ ys. behind_variables (behind_variable (names c.loop-one.scopes) (variable c.loop-one-item.result.1)) (listed ys)) c.as_slice-rest.result.now c.loop-one.one-index c.loop-one-item.result _ (λ ys. refl) c.loop-one-test.true c.loop-one-item.is c.loop-one.invariant.0,
  rw c.in_ok-push-2.ensures.items (listed_more chain.Commands _ c.loop-one.nodes.items _ c.loop-one.numbers.items c.in_ok-number.number _ _ _ _ c.loop-one.invariant.1 c.in_ok-number.ensures.nodes (locals_step (names c.loop-one.scopes) c.as_slice-rest.result.now c.loop-one.one-index c.loop-one-item.result c.loop-one-test.true c.loop-one-item.is)),
)

pub returns-clause-nodes : goal.returns-clause-nodes
returns-clause-nodes c =
    listed_ok chain.Commands c.args.nodes.now.items c.loop-one.nodes.items c.push_list.new.nodes.items c.loop-one.numbers.items _ c.push_list.result (rw (locals_end (names c.loop-one.scopes) c.as_slice-rest.result.now c.loop-one.one-index c.loop-one-test.false) at c.loop-one.invariant.1) c.push_list.ensures
