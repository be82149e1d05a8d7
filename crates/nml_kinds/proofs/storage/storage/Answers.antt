use Rattle.nml_kinds.proofs.Storages.{one_storage}
use Rattle.nml_tree.specs.Table.{table}
use Rattle.nml_kinds.proofs.storage.storage.Goals as goal

pub returns-clause-found : goal.returns-clause-found
returns-clause-found c = λ items.
    one_storage (table c.args.names.now) c.args.s.now c.args.before.cells c.args.before.storages _ _ _ _ _ _ items c.size_or_none-size.ensures c.more_cells-cells.ensures c.more_storages.ensures (rw c.passes.ensures at c.note-found.ensures) c.note-found-2.ensures
