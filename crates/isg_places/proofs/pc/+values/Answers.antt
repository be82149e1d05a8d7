use Rattle.std.proofs.Common.{subst, arith}
use Rattle.isg_nodes.specs.Written.{IsBelow}
use Rattle.isg_places.specs.Found.{IsFound}
use Rattle.isg_places.specs.Places.{pc_values}
use Rattle.isg_places.proofs.Above.{falls_at, falls_into}
use Rattle.isg_places.proofs.Splits.{values_split, whole}
use Rattle.isg_places.proofs.pc.+values.Goals as goal

pub values-statement_values-requires : goal.values-statement_values-requires
values-statement_values-requires t c = falls_at c.args.nodes.now c.args.effect.now c.loop-m.m-index t c.loop-m-test.true c.requires.within c.requires.falls c.decreases

pub values-returns : goal.values-returns
values-returns t c = subst (IsFound c.args.nodes.now c.loop-m.found) (whole (pc_values c.args.pc) (values_split c.args.pc) c.args.nodes.now c.args.effect.now c.loop-m.m-index (omega (arith, c.loop-m-test.false))) c.loop-m.invariant

pub statement_values-values-requires : goal.statement_values-values-requires
statement_values-values-requires t c =
    let b = subst (λ y. IsBelow y c.args.n) c.in-When.is c.node_at.ensures.below in
    falls_into c.args.nodes.now c.as_slice.result.now c.in-When.xs c.args.n t c.as_slice.ensures b.1.0 c.requires.within c.requires.falls c.decreases

pub statement_values-values-requires-in-When : goal.statement_values-values-requires-in-When
statement_values-values-requires-in-When t c =
    let b = subst (λ y. IsBelow y c.args.n) c.in-When.is c.node_at.ensures.below in
    falls_into c.args.nodes.now c.as_slice-in-When.result.now c.in-When.ys c.args.n t c.as_slice-in-When.ensures b.1.1 c.requires.within c.requires.falls c.decreases
