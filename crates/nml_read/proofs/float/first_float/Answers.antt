use Rattle.std.proofs.Common.{◌+◌, sym, ap, ◌∙◌, drop}
use Rattle.std.specs.Prelude.{flat_map}
use Rattle.std.proofs.lemmas.Grind.{flat_map-append}
use Rattle.nml_tree.specs.Floats.{float_place, item_types}
use Rattle.nml_tree.proofs.Drops.{dropped}
use Rattle.nml_read.proofs.FirstFloat.{first_of_front}
use Rattle.nml_read.proofs.float.first_float.Goals as goal

pub returns-in-Some : goal.returns-in-Some
returns-in-Some c =
    let item = c.item-item.result in
    let items = c.as_slice-item-items.result.now in
    let left = dropped items c.loop-item.item-index item c.loop-item-test.true c.item-item.is in
    let behind = flat_map item_types (drop (c.loop-item.item-index + 1) items) in
    let parts = ap (λ is. flat_map float_place (flat_map item_types is)) left ∙ flat_map-append float_place (item_types item) behind in
    first_of_front _ _ _ c.in-Some.at (sym c.loop-item.invariant ∙ parts) c.in-Some.ensures
