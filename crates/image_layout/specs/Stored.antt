-- The storages that a description declares.
use Rattle.std.specs.Prelude.{◌≡◌, ◌≤◌, ℕ, true, List, [], ◌∷◌, Option, Some, None}
use Rattle.nk_base.specs.declared.number.Ty.{Ty}
use Rattle.nml_tree.specs.Table.{Declared}
use Rattle.nml_tree.specs.Worth.{is_type}

-- the storage, where there is one
abbrev pub listed : Option (ℕ × Ty) → List (ℕ × Ty)
listed None = []
listed (Some storage) = storage ∷ []

-- a storage has at most 65,536 cells, of 1 to 64 bits
abbrev pub IsRight : Declared → Type 0
IsRight (Declared.Storage n size ty) = (size ≤ 65536) × (is_type ty ≡ true)
IsRight _ = Unit {0}
