-- How many storages and transitories stand among items.
use Rattle.std.specs.Prelude.{ℕ, ◌+◌, Bool, true, false, if◌then◌else◌, List, [], ◌∷◌}
use Rattle.nml_tree.specs.declared.tree.PortWord.{PortWord}
use Rattle.nml_tree.specs.declared.tree.PortWord.TheVariants as port
use Rattle.nml_tree.specs.declared.tree.Item.{Item}
use Rattle.nml_tree.specs.declared.tree.Item.TheVariants as item

-- a `mem` or a `reg`
abbrev pub is_storage_item : Item → Bool
is_storage_item (item.Storage s) = true
is_storage_item _ = false

-- `trn`
abbrev pub is_trn_word : PortWord → Bool
is_trn_word (port.Trn at) = true
is_trn_word _ = false

-- a transitory
abbrev pub is_trn_item : Item → Bool
is_trn_item (item.Port p) = is_trn_word p.word
is_trn_item _ = false

-- the storages among these
abbrev pub storages_among : List Item → ℕ
storages_among [] = 0
storages_among (i ∷ items) = (if is_storage_item i then 1 else 0) + storages_among items

-- the transitories among these
abbrev pub transitories_among : List Item → ℕ
transitories_among [] = 0
transitories_among (i ∷ items) = (if is_trn_item i then 1 else 0) + transitories_among items
