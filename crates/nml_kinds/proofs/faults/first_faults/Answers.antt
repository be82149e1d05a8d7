use Rattle.std.proofs.Common.{◌∙◌, ◌++◌, refl, sym, ap, flat_map, None}
use Rattle.nml_tree.specs.Table.{table}
use Rattle.nml_tree.specs.TypeFault.{item_places}
use Rattle.nml_tree.specs.WidthFault.{item_widths, storage_places}
use Rattle.nml_names.specs.Note.{noted}
use Rattle.nml_names.proofs.Notes.{noted_append, noted_is}
use Rattle.nml_kinds.proofs.Orders.{item_noted, all_noted}
use Rattle.nml_kinds.proofs.faults.first_faults.Goals as goal

pub loop-i-init : goal.loop-i-init
loop-i-init c = let d = c.args.names.now in record { kind = refl; width = ap (λ o. noted o (flat_map (item_widths (table d)) d.items)) c.storages.ensures }

pub loop-i-preserved : goal.loop-i-preserved
loop-i-preserved c =
    let d = c.args.names.now in
    let low = rw c.items-i-items.ensures at c.loop-i-test.true in
    let at = rw c.items-i-items.ensures at c.i-item.is in
    record {
      kind = item_noted (item_places (table d)) d.items c.loop-i.i-index _ c.loop-i.found.kind c.in_ok-found.found.kind low at c.in_ok-found.ensures.kind ∙ c.loop-i.invariant.kind;
      width = item_noted (item_widths (table d)) d.items c.loop-i.i-index _ c.loop-i.found.width c.in_ok-found.found.width low at c.in_ok-found.ensures.width ∙ c.loop-i.invariant.width;
    }

pub returns-clause-kind : goal.returns-clause-kind
returns-clause-kind c =
    let d = c.args.names.now in
    let far = rw c.items-i-items.ensures at c.loop-i-test.false in
    sym (all_noted (item_places (table d)) d.items c.loop-i.i-index c.loop-i.found.kind far) ∙ c.loop-i.invariant.kind ∙ noted_is None (flat_map (item_places (table d)) d.items)

pub returns-clause-width : goal.returns-clause-width
returns-clause-width c =
    let d = c.args.names.now in
    let far = rw c.items-i-items.ensures at c.loop-i-test.false in
    let s = storage_places (table d) 0 0 d.items in
    let w = flat_map (item_widths (table d)) d.items in
    sym (all_noted (item_widths (table d)) d.items c.loop-i.i-index c.loop-i.found.width far) ∙ c.loop-i.invariant.width ∙ sym (noted_append None s w) ∙ noted_is None (s ++ w)
