-- The storages of a description, as they are kept, and what a `.data` line gives.
use Rattle.std.specs.Prelude.{ℕ, ◌≡◌, ◌≤◌, true, false, List, [], ◌∷◌, length, Option, Some, None, option_map, option_and_then, slice_get}
use Rattle.std.specs.Map.{lookup}
use Rattle.nk_base.specs.Number.{IsTy}
use Rattle.nk_base.specs.Text.{text_eq}
use Rattle.nk_base.specs.declared.number.Ty.{Ty}
use Rattle.nml_tree.specs.Exec.{pc, storages}
use Rattle.nml_tree.specs.Machine.{Initial}
use Rattle.nml_tree.specs.Table.{Text, Table, Declared, declared}
use Rattle.asm_lines.specs.Line.{Content}
use Rattle.asm_text.specs.Assembled.{given_by}
use Rattle.asm_text.specs.Refused.{is_data}
use Rattle.asm_data.specs.declared.storages.Cell.{Cell}
use Rattle.asm_data.specs.declared.storages.Storages.{Storages}

-- the number of a storage, none of anything else
abbrev pub number_in : Declared → Option ℕ
number_in (Declared.Storage n size ty) = Some n
number_in _ = None

-- the number of the storage that a name is declared as
abbrev pub number_named : Option Declared → Option ℕ
number_named o = option_and_then number_in o

-- the entries have each declared name, with the number of its storage
abbrev pub HasNumbers : Table → List (Text × Option ℕ) → Type 0
HasNumbers t es = (name : Text) → lookup (text_eq name) es ≡ option_map number_in (declared t name)

-- at most 65,536 storages, whose cells have 1 to 64 bits
pub record IsSound (s : Storages) : Type 0 where
  pub few : length s.layout.storages.items ≤ 65536
  pub typed : (n size : ℕ) (ty : Ty) → slice_get s.layout.storages.items n ≡ Some (size, ty) → IsTy ty

-- the storages of this table are kept, each by its name and by its number
pub record AreStorages (t : Table) (s : Storages) : Type 0 where
  pub numbers_are : HasNumbers t s.numbers.entries
  pub rows_are : s.layout.storages.items ≡ storages t
  pub pc_is : s.layout.pc ≡ pc t
  pub numbered : (name : Text) (n size : ℕ) (ty : Ty) → declared t name ≡ Some (Declared.Storage n size ty) → slice_get (storages t) n ≡ Some (size, ty)

-- a cell with its value, as a machine begins with it
abbrev pub initial_of : Cell × ℕ → Initial
initial_of p = record { storage = p.0.storage; cell = p.0.cell; raw = p.1 }

-- the cell that a line gives, and its value; none where the line names no cell or the value is out of range
abbrev pub IsGiven : Table → Content → Option (Cell × ℕ) → Type 0
IsGiven t c None = is_data t c ≡ false
IsGiven t c (Some p) = (is_data t c ≡ true) × (given_by t c ≡ initial_of p ∷ [])
