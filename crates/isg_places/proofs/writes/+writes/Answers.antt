use Rattle.std.proofs.Common.{sym, subst, arith}
use Rattle.nml_tree.specs.Act.{Done}
use Rattle.isg_nodes.specs.Written.{statement, IsBelow}
use Rattle.isg_places.specs.Places.{act_writes}
use Rattle.isg_places.proofs.Above.{falls_at, falls_into}
use Rattle.isg_places.proofs.Adding.{adds_as, adds_both, on_ok}
use Rattle.isg_places.proofs.Splits.{flat_more, writes_split, when_writes, whole}
use Rattle.isg_places.proofs.writes.+writes.Goals as goal

pub add_writes-add_statement_writes-requires : goal.add_writes-add_statement_writes-requires
add_writes-add_statement_writes-requires t c = falls_at c.args.nodes.now c.args.effect.now c.loop-m.m-index t c.loop-m-test.true c.requires.within c.requires.falls c.decreases

pub add_writes-loop-m-preserved : goal.add_writes-loop-m-preserved
add_writes-loop-m-preserved t c =
    adds_both _ _ _ _ _ _ _ (sym (flat_more (λ m. act_writes (statement c.args.nodes.now m Done)) c.args.effect.now c.loop-m.m-index c.loop-m-test.true)) c.loop-m.invariant c.in_ok-add_statement_writes.ensures

pub add_writes-returns : goal.add_writes-returns
add_writes-returns t c = adds_as _ _ _ _ _ (whole act_writes writes_split c.args.nodes.now c.args.effect.now c.loop-m.m-index (omega (arith, c.loop-m-test.false))) c.loop-m.invariant

pub add_statement_writes-add_writes-requires : goal.add_statement_writes-add_writes-requires
add_statement_writes-add_writes-requires t c =
    let b = subst (λ y. IsBelow y c.args.n) c.in-When.is c.node_at.ensures.below in
    falls_into c.args.nodes.now c.as_slice.result.now c.in-When.xs c.args.n t c.as_slice.ensures b.1.0 c.requires.within c.requires.falls c.decreases

pub add_statement_writes-add_writes-requires-in-When : goal.add_statement_writes-add_writes-requires-in-When
add_statement_writes-add_writes-requires-in-When t c =
    let b = subst (λ y. IsBelow y c.args.n) c.in-When.is c.node_at.ensures.below in
    falls_into c.args.nodes.now c.as_slice-in-When.result.now c.in-When.ys c.args.n t c.as_slice-in-When.ensures b.1.1 c.requires.within c.requires.falls c.decreases

pub add_statement_writes-returns-in_ok-add_writes-in-When : goal.add_statement_writes-returns-in_ok-add_writes-in-When
add_statement_writes-returns-in_ok-add_writes-in-When t c =
    let first = rw c.as_slice.ensures at c.in_ok-add_writes-in-When.ensures in
    let second = rw c.as_slice-in-When.ensures at c.add_writes-in-When.ensures in
    on_ok _ (λ k. adds_both _ _ _ _ _ _ _ (when_writes _ _ _ c.node_at.ensures.act _ _ _ c.in-When.is) first k) second
