use Rattle.std.proofs.Common.{◌≡◌, ◌≤◌, drop}
use Rattle.nml_tree.specs.Table.{table}
use Rattle.nml_tree.specs.WidthFault as spec
use Rattle.nml_names.specs.Note.{noted}
use Rattle.nml_kinds.proofs.storage.storages.Given as goal

abbrev pub invariant-loop-i : goal.invariant-loop-i
invariant-loop-i l = record {
  few : (l.stored.cells ≤ 1048577) × (l.stored.storages ≤ 65537);
  found : noted l.stored.found (spec.storage_places (table l.names) l.stored.cells l.stored.storages (drop l.i-index l.names.items)) ≡ noted l.fn.found (spec.storage_places (table l.names) 0 0 l.names.items);
}
