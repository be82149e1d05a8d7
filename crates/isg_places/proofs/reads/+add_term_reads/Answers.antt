use Rattle.std.proofs.Common.{refl}
use Rattle.isg_places.proofs.Adding.{adds_both, on_ok}
use Rattle.isg_places.proofs.Splits.{term_reads}
use Rattle.isg_places.proofs.reads.+add_term_reads.Goals as goal

pub returns-in_ok-add_spot-in-Cell : goal.returns-in_ok-add_spot-in-Cell
returns-in_ok-add_spot-in-Cell t c =
    on_ok _ (λ k. adds_both _ _ _ _ _ _ _ (term_reads _ _ _ _ c.node_at.ensures.value c.in-Cell.is) c.in_ok-add_spot-in-Cell.ensures k) c.add_term_reads.ensures

pub returns-in_ok-add_term_reads-in-Binary : goal.returns-in_ok-add_term_reads-in-Binary
returns-in_ok-add_term_reads-in-Binary t c =
    on_ok _ (λ k. adds_both _ _ _ _ _ _ _ (term_reads _ _ _ _ c.node_at.ensures.value c.in-Binary.is) c.in_ok-add_term_reads-in-Binary.ensures k) c.add_term_reads-in-Binary-2.ensures

pub returns-in_ok-add_term_reads-in-Choose-2 : goal.returns-in_ok-add_term_reads-in-Choose-2
returns-in_ok-add_term_reads-in-Choose-2 t c =
    on_ok _
    (λ k. adds_both _ _ _ _ _ _ _ (term_reads _ _ _ _ c.node_at.ensures.value c.in-Choose.is) (adds_both _ _ _ _ _ _ _ refl c.in_ok-add_term_reads-in-Choose.ensures c.in_ok-add_term_reads-in-Choose-2.ensures) k)
    c.add_term_reads-in-Choose-3.ensures
