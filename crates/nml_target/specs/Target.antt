-- The width of the numbers that programs compute with: that of the cells of `DM`, of `IN` and of `OUT`, where it is one of 16 to 32 bits.
use Rattle.std.specs.Prelude.{ℕ, nat_le, Bool, true, false, ◌&&◌, ◌==◌, List, [], ◌∷◌, Option, Some, None, Result, Ok, Err, codes, if◌then◌else◌}
use Rattle.nk_base.specs.Text.{text_eq}
use Rattle.nk_base.specs.declared.number.Ty.{Ty}
use Rattle.nk_base.specs.declared.number.Ty.TheVariants as ty
use Rattle.nml_tree.specs.declared.tree.Desc.{Desc}
use Rattle.nml_tree.specs.declared.tree.Item.{Item}
use Rattle.nml_tree.specs.declared.tree.Item.TheVariants as item
use Rattle.nml_tree.specs.declared.tree.StorageWord.{StorageWord}
use Rattle.nml_tree.specs.declared.tree.StorageWord.TheVariants as word
use Rattle.nml_tree.specs.Table.{Text, Declared, declared, table}
use Rattle.nml_tree.specs.Uses.{declares}
use Rattle.nml_target.specs.declared.width.Lacking.{Lacking}
use Rattle.nml_target.specs.declared.width.Lacking.TheVariants as lacking

-- the first item that declares the name
abbrev pub item_named : List Item → Text → Option Item
item_named [] name = None
item_named (i ∷ items) name = if text_eq name (declares i).text then Some i else item_named items name

-- `mem`, and not `reg`
abbrev pub is_mem_word : StorageWord → Bool
is_mem_word (word.Mem at) = true
is_mem_word (word.Reg at) = false

-- an item that is a memory
abbrev pub is_mem : Option Item → Bool
is_mem (Some (item.Storage s)) = is_mem_word s.word
is_mem _ = false

-- the type of the cells of a storage
abbrev pub cell_type : Option Declared → Option Ty
cell_type (Some (Declared.Storage number size t)) = Some t
cell_type _ = None

-- the type of the input
abbrev pub inp_type : Option Declared → Option Ty
inp_type (Some (Declared.Inp t)) = Some t
inp_type _ = None

-- the type of the output
abbrev pub out_type : Option Declared → Option Ty
out_type (Some (Declared.Out t)) = Some t
out_type _ = None

-- how many bits an `int` of 16 to 32 bits has; any other type is none of these
abbrev pub int_width : Option Ty → Option ℕ
int_width (Some (ty.Int n)) = if nat_le 16 n && nat_le n 32 then Some n else None
int_width _ = None

-- an `int` of so many bits
abbrev pub is_int : ℕ → Option Ty → Bool
is_int n (Some (ty.Int m)) = m == n
is_int n _ = false

-- how many bits the cells of `mem DM` have, where they are of such a type
abbrev pub memory_width : Desc → Option ℕ
memory_width d = if is_mem (item_named d.items (codes "DM")) then int_width (cell_type (declared (table d) (codes "DM"))) else None

-- `inp IN` and `out OUT` beside cells of so many bits: `IN` is looked at first
abbrev pub with_ports : Desc → Option ℕ → Result ℕ Lacking
with_ports d None = Err lacking.Dm
with_ports d (Some n) =
    if is_int n (inp_type (declared (table d) (codes "IN"))) then
    if is_int n (out_type (declared (table d) (codes "OUT"))) then Ok n else Err lacking.Out
    else Err lacking.In

-- The bits of the numbers of `mem DM`, `inp IN` and `out OUT`; or the first of the three that is absent, isn't of its kind, or has another type.
abbrev pub target : Desc → Result ℕ Lacking
target d = with_ports d (memory_width d)
