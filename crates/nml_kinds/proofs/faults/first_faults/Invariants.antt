use Rattle.std.proofs.Common.{◌≡◌, drop, flat_map, None}
use Rattle.nml_tree.specs.Table.{table}
use Rattle.nml_tree.specs.TypeFault.{item_places}
use Rattle.nml_tree.specs.WidthFault.{item_widths, storage_places}
use Rattle.nml_names.specs.Note.{noted}
use Rattle.nml_kinds.proofs.faults.first_faults.Given as goal

abbrev pub invariant-loop-i : goal.invariant-loop-i
invariant-loop-i l = record {
  kind : noted l.found.kind (flat_map (item_places (table l.fn.names)) (drop l.i-index l.fn.names.items)) ≡ noted None (flat_map (item_places (table l.fn.names)) l.fn.names.items);
  width : noted l.found.width (flat_map (item_widths (table l.fn.names)) (drop l.i-index l.fn.names.items)) ≡ noted (noted None (storage_places (table l.fn.names) 0 0 l.fn.names.items)) (flat_map (item_widths (table l.fn.names)) l.fn.names.items);
}
