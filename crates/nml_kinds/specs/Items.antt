-- The places of faults of kind in storages and ports.
use Rattle.std.specs.Prelude.{ℕ, List, ◌++◌}
use Rattle.nml_tree.specs.declared.tree.Storage.{Storage}
use Rattle.nml_tree.specs.declared.tree.Port.{Port}
use Rattle.nml_tree.specs.Table.{Table}
use Rattle.nml_tree.specs.TypeFault.{size_places, type_places, pc_places, port_places}

-- in a storage
abbrev pub storage_kinds : Table → Storage → List ℕ
storage_kinds t s = size_places t 1 s.size ++ type_places t s.ty ++ pc_places t s

-- in a transitory or a port
abbrev pub port_kinds : Table → Port → List ℕ
port_kinds t p = type_places t p.ty ++ port_places t p.word p.ty
