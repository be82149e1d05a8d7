use Rattle.nml_texts.proofs.Fronts.{Known}
use Rattle.nml_texts.proofs.widths.all_bits.Given as goal

abbrev pub invariant-loop-item : goal.invariant-loop-item
invariant-loop-item l = Known l.names l.bits.items l.item-index
