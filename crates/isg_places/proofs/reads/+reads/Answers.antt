use Rattle.std.proofs.Common.{refl, sym, subst, arith}
use Rattle.nml_tree.specs.Act.{Done}
use Rattle.isg_nodes.specs.Written.{statement, IsBelow}
use Rattle.isg_places.specs.Places.{act_reads}
use Rattle.isg_places.proofs.Above.{falls_at, falls_into}
use Rattle.isg_places.proofs.Adding.{adds_as, adds_both, on_ok}
use Rattle.isg_places.proofs.Splits.{flat_more, reads_split, set_cell_reads, when_reads, whole}
use Rattle.isg_places.proofs.reads.+reads.Goals as goal

pub add_reads-add_statement_reads-requires : goal.add_reads-add_statement_reads-requires
add_reads-add_statement_reads-requires t c = falls_at c.args.nodes.now c.args.effect.now c.loop-m.m-index t c.loop-m-test.true c.requires.within c.requires.falls c.decreases

pub add_reads-loop-m-preserved : goal.add_reads-loop-m-preserved
add_reads-loop-m-preserved t c =
    adds_both _ _ _ _ _ _ _ (sym (flat_more (λ m. act_reads (statement c.args.nodes.now m Done)) c.args.effect.now c.loop-m.m-index c.loop-m-test.true)) c.loop-m.invariant c.in_ok-add_statement_reads.ensures

pub add_reads-returns : goal.add_reads-returns
add_reads-returns t c = adds_as _ _ _ _ _ (whole act_reads reads_split c.args.nodes.now c.args.effect.now c.loop-m.m-index (omega (arith, c.loop-m-test.false))) c.loop-m.invariant

pub add_statement_reads-add_reads-requires : goal.add_statement_reads-add_reads-requires
add_statement_reads-add_reads-requires t c =
    let b = subst (λ y. IsBelow y c.args.n) c.in-When.is c.node_at.ensures.below in
    falls_into c.args.nodes.now c.as_slice.result.now c.in-When.xs c.args.n t c.as_slice.ensures b.1.0 c.requires.within c.requires.falls c.decreases

pub add_statement_reads-add_reads-requires-in-When : goal.add_statement_reads-add_reads-requires-in-When
add_statement_reads-add_reads-requires-in-When t c =
    let b = subst (λ y. IsBelow y c.args.n) c.in-When.is c.node_at.ensures.below in
    falls_into c.args.nodes.now c.as_slice-in-When.result.now c.in-When.ys c.args.n t c.as_slice-in-When.ensures b.1.1 c.requires.within c.requires.falls c.decreases

pub add_statement_reads-returns-in_ok-add_term_reads-in-SetCell : goal.add_statement_reads-returns-in_ok-add_term_reads-in-SetCell
add_statement_reads-returns-in_ok-add_term_reads-in-SetCell t c =
    on_ok _ (λ k. adds_both _ _ _ _ _ _ _ (set_cell_reads _ _ _ c.node_at.ensures.act _ _ _ c.in-SetCell.is) c.in_ok-add_term_reads-in-SetCell.ensures k) c.add_term_reads-in-SetCell.ensures

pub add_statement_reads-returns-in_ok-add_reads-in-When : goal.add_statement_reads-returns-in_ok-add_reads-in-When
add_statement_reads-returns-in_ok-add_reads-in-When t c =
    let first = rw c.as_slice.ensures at c.in_ok-add_reads-in-When.ensures in
    let second = rw c.as_slice-in-When.ensures at c.add_reads-in-When.ensures in
    on_ok _ (λ k. adds_both _ _ _ _ _ _ _ (when_reads _ _ _ c.node_at.ensures.act _ _ _ c.in-When.is) (adds_both _ _ _ _ _ _ _ refl c.in_ok-add_term_reads-in-When.ensures first) k) second
