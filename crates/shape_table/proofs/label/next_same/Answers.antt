use Rattle.std.proofs.Common.{arith, sym, ◌∙◌}
use Rattle.shape_table.proofs.Latest.{kept_found, kept_none, are_next}
use Rattle.shape_table.proofs.label.next_same.Goals as goal

pub loop-i-preserved-in-Some : goal.loop-i-preserved-in-Some
loop-i-preserved-in-Some c = kept_found _ _ c.loop-i.i _ _ _ (omega arith) c.loop-i.invariant c.in_ok-j.ensures.updates.0 (sym c.in-Some.is ∙ c.in_ok-j.ensures.old)

pub loop-i-preserved : goal.loop-i-preserved
loop-i-preserved c = kept_none _ _ c.loop-i.i 0 _ _ (omega arith) c.loop-i.invariant c.in_ok-j.ensures.updates.0 (sym c.in_default.is ∙ c.in_ok-j.ensures.old)

pub returns : goal.returns
returns c = are_next _ _ c.loop-i.i _ (omega arith) c.loop-i.invariant
