-- For private contracts: the names of storages.
use Rattle.std.specs.Prelude.{List, [], ◌∷◌, flat_map}
use Rattle.nml_tree.specs.Table.{Text, Table, Declared}

-- the name, where it is that of a storage
abbrev pub name_listed : Text × Declared → List Text
name_listed (name, Declared.Storage n k ty) = name ∷ []
name_listed (name, _) = []

-- the names of the storages, in order
abbrev pub storage_names : Table → List Text
storage_names t = flat_map name_listed t
