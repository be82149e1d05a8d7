-- The bits of a word and of PC, for private contracts.
use Rattle.std.specs.Prelude.{ℕ, ◌≡◌, ◌≤◌, Some, slice_get}
use Rattle.nk_base.specs.declared.number.Ty.TheVariants as ty
use Rattle.nml_tree.specs.declared.tree.Desc.{Desc}
use Rattle.nml_tree.specs.Table.{table}
use Rattle.nml_tree.specs.Exec.{pc, storages}
use Rattle.nml_tree.specs.Valid.{IsWordWidth}

-- a word has so many bits
pub record AreWordBits (d : Desc) (n : ℕ) : Type 0 where
  pub are : IsWordWidth (table d) n
  pub least : 8 ≤ n
  pub most : n ≤ 64

-- PC has so many
pub record ArePcBits (d : Desc) (n : ℕ) : Type 0 where
  pub are : slice_get (storages (table d)) (pc (table d)) ≡ Some (1, ty.Card n)
  pub least : 1 ≤ n
  pub most : n ≤ 16
