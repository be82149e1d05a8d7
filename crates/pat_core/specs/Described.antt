-- A description as patterns see it.
use Rattle.std.specs.Prelude.{ℕ, Bool, true, false, List, [], ◌∷◌, codes}
use Rattle.nk_base.specs.declared.number.Ty.{Ty}
use Rattle.nk_base.specs.Number.{width_of}
use Rattle.nml_tree.specs.declared.tree.Desc.{Desc}
use Rattle.nml_tree.specs.declared.tree.Item.{Item}
use Rattle.nml_tree.specs.declared.tree.Item.TheVariants as item
use Rattle.nml_tree.specs.declared.tree.StorageWord.{StorageWord}
use Rattle.nml_tree.specs.declared.tree.StorageWord.TheVariants as word
use Rattle.nml_tree.specs.Table.{Table, declared, table}
use Rattle.nml_tree.specs.Exec.{storages, storage_type, storage_number, trn_types, pc}
use Rattle.pat_core.specs.Machine.{Machine, Storage}

-- `reg`, and not `mem`
abbrev pub is_reg_word : StorageWord → Bool
is_reg_word (word.Mem at) = false
is_reg_word (word.Reg at) = true

-- of each storage, whether it is a `reg`
abbrev pub regs : List Item → List Bool
regs [] = []
regs (item.Storage s ∷ items) = is_reg_word s.word ∷ regs items
regs (_ ∷ items) = regs items

-- with the size and the type of each
abbrev pub with_sizes : List Bool → List (ℕ × Ty) → List Storage
with_sizes (reg ∷ rest) ((size, ty) ∷ others) = (record { is_reg = reg; size = size; ty = ty }) ∷ with_sizes rest others
with_sizes _ _ = []

-- the number of the data memory
abbrev pub dm : Table → ℕ
dm t = storage_number (declared t (codes "DM"))

-- by the table of its names
abbrev pub machine_by : Table → List Item → Machine
machine_by t items = record {
  width = width_of (storage_type t (dm t));
  storages = with_sizes (regs items) (storages t);
  trns = trn_types t;
  dm = dm t;
  pc = pc t;
}

-- the machine of a description that has a target
abbrev pub machine_of : Desc → Machine
machine_of d = machine_by (table d) d.items
