use Rattle.nml_texts.proofs.Fronts.{known_more}
use Rattle.nml_texts.proofs.widths.all_bits.Goals as goal

pub loop-item-preserved : goal.loop-item-preserved
loop-item-preserved c =
    let low = rw c.items-item-items.ensures at c.loop-item-test.true in
    let at = rw c.items-item-items.ensures at c.item-item.is in
    let is = rw c.as_slice.ensures.value at c.item_bits-n.ensures in
    rw c.in_ok-push.ensures.items (known_more c.args.names.now c.loop-item.bits.items c.loop-item.item-index _ c.item_bits-n.result c.loop-item.invariant low at is)
