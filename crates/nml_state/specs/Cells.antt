-- The state of a machine: its cells and transitories with their types, and the writes that are kept for the end of an instruction.
use Rattle.std.specs.Prelude.{ℕ, zero, suc, ◌+◌, ◌<◌, ◌≤◌, ◌≡◌, ◌==◌, ◌&&◌, Bool, List, [], ◌∷◌, map, length, replicate, ℤ, pos, Some, slice_get}
use Rattle.std.specs.List.{list_any}
use Rattle.nk_base.specs.declared.number.Ty.{Ty}
use Rattle.nk_base.specs.Number.{InRange}
use Rattle.nml_tree.specs.Table.{Table}
use Rattle.nml_tree.specs.Value.{Cells}
use Rattle.nml_tree.specs.Exec.{Write, storages, trn_types}

-- the type of each storage and of each transitory, what they hold, and the kept writes in order
pub record Shown : Type 0 where
  pub types : List Ty
  pub trn_types : List Ty
  pub cells : Cells
  pub trns : List ℤ
  pub kept : List Write

-- how many cells each storage has
abbrev pub sizes : Cells → List ℕ
sizes cells = map (λ row. length row) cells

-- there is a cell of this number in the storage, of these sizes
abbrev pub IsAmong : List ℕ → ℕ → ℕ → Type 0
IsAmong counts storage n = (count : ℕ) × (slice_get counts storage ≡ Some count) × (n < count)

-- the storage has a cell of this number
abbrev pub HasCell : Cells → ℕ → ℕ → Type 0
HasCell cells storage n = IsAmong (sizes cells) storage n

-- the value is one of the type of this number
abbrev pub IsOf : List Ty → ℕ → ℤ → Type 0
IsOf types n z = (ty : Ty) × (slice_get types n ≡ Some ty) × InRange ty z

abbrev pub is_write_of : ℕ → ℕ → Write → Bool
is_write_of storage n w = (w.storage == storage) && (w.index == n)

-- whether a write of the cell is kept
abbrev pub is_kept : List Write → ℕ → ℕ → Bool
is_kept kept storage n = list_any (is_write_of storage n) kept

-- the state in which a machine begins: each cell and each transitory is 0, and no write is kept
abbrev pub opened : Table → Shown
opened t = record {
  types = map (λ s. s.1) (storages t);
  trn_types = trn_types t;
  cells = map (λ s. replicate s.0 (pos 0)) (storages t);
  trns = map (λ ty. pos 0) (trn_types t);
  kept = [];
}
