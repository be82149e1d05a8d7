-- How many storages and transitories there are.
use Rattle.std.specs.Prelude.{◌≡◌, length, filter}
use Rattle.nml_tree.specs.Table.{Table, is_storage, is_trn}
use Rattle.isg_written.specs.declared.numbered.Counts.{Counts}

-- those of the table
abbrev pub AreCounts : Table → Counts → Type 0
AreCounts t c = (c.storages ≡ length (filter is_storage t)) × (c.trns ≡ length (filter is_trn t))
