-- What patterns ask of a description: its storages, its transitories, and which storages are the data memory and PC.
use Rattle.std.specs.Prelude.{ℕ, ◌==◌, ℤ, int_le, Bool, true, false, not, ◌&&◌, nat_le, List, slice_get, unwrap_or}
use Rattle.nk_base.specs.declared.number.Ty.{Ty}
use Rattle.nk_base.specs.declared.number.Ty.TheVariants as ty
use Rattle.nk_base.specs.Number.{width_of}

-- a `reg` or a `mem`, how many cells it has, and their type
pub record Storage : Type 0 where
  pub is_reg : Bool
  pub size : ℕ
  pub ty : Ty

-- the width of a cell of the data memory and of the ports; the storages in the text's order; the transitories; `DM`; `PC`
pub record Machine : Type 0 where
  pub width : ℕ
  pub storages : List Storage
  pub trns : List Ty
  pub dm : ℕ
  pub pc : ℕ

-- the storage of this number
abbrev pub storage_at : Machine → ℕ → Storage
storage_at m n = unwrap_or (slice_get m.storages n) (record { is_reg = false; size = 0; ty = ty.Bool })

-- the type of a cell of this storage
abbrev pub cell_type : Machine → ℕ → Ty
cell_type m n = (storage_at m n).ty

-- it is a `reg`
abbrev pub is_reg : Machine → ℕ → Bool
is_reg m n = (storage_at m n).is_reg

-- the type of this number
abbrev pub type_at : List Ty → ℕ → Ty
type_at types j = unwrap_or (slice_get types j) ty.Bool

-- how many bits PC has
abbrev pub pc_width : Machine → ℕ
pc_width m = width_of (cell_type m m.pc)

-- card(k)
abbrev pub is_card : Ty → Bool
is_card (ty.Card n) = true
is_card _ = false

-- int(k) or card(k) with k at least n
abbrev pub is_wide : ℕ → Ty → Bool
is_wide n ty.Bool = false
is_wide n t = nat_le n (width_of t)

-- neither is it
abbrev pub not_wide : ℕ → Ty → Bool
not_wide n t = not (is_wide n t)

-- int(n) itself
abbrev pub is_int : ℕ → Ty → Bool
is_int n (ty.Int k) = k == n
is_int n _ = false

-- the two are equal
abbrev pub same_number : ℤ → ℤ → Bool
same_number x y = int_le x y && int_le y x
