-- The numbers of storages and of transitories.
use Rattle.std.specs.Prelude.{ℕ, List, map, Option, Some, None}
use Rattle.nml_tree.specs.Table.{Table, Declared, Storage, Trn}

-- that of a storage among the storages, of a transitory among the transitories
abbrev pub number_of : Declared → ℕ
number_of (Storage n size ty) = n
number_of (Trn n ty) = n
number_of _ = 0

-- and of what a name is declared as
abbrev pub number_named : Option Declared → ℕ
number_named None = 0
number_named (Some d) = number_of d

-- of all that is declared, in order
abbrev pub all_numbers : Table → List ℕ
all_numbers t = map (λ (name, d). number_of d) t
