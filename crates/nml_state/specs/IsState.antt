-- What holds of each state.
use Rattle.std.specs.Prelude.{ℕ, zero, suc, ◌+◌, ◌<◌, ◌≤◌, ◌≡◌, eqb, List, [], ◌∷◌, map, length, replicate, ℤ, pos}
use Rattle.std.specs.List.{IsDistinct}
use Rattle.nk_base.specs.declared.number.Ty.{Ty}
use Rattle.nk_base.specs.Number.{InRange}
use Rattle.nml_tree.specs.Table.{Table}
use Rattle.nml_tree.specs.Value.{Cells}
use Rattle.nml_tree.specs.Exec.{Write, storages, trn_types}
use Rattle.nml_state.specs.Cells.{Shown, IsAmong, IsOf, sizes}

-- how many cells there are
abbrev pub total : List ℕ → ℕ
total [] = 0
total (n ∷ counts) = n + total counts

-- the cell's number among all cells
abbrev pub place : List ℕ → ℕ → ℕ → ℕ
place [] storage n = n
place (count ∷ counts) zero n = n
place (count ∷ counts) (suc storage) n = count + place counts storage n

-- the numbers of the cells that are written
abbrev pub places : List ℕ → List Write → List ℕ
places counts kept = map (λ w. place counts w.storage w.index) kept

-- each value is of the type
abbrev pub AreAll : Ty → List ℤ → Type 0
AreAll ty [] = Unit {0}
AreAll ty (z ∷ zs) = InRange ty z × AreAll ty zs

-- each storage's values are of its type
abbrev pub AreRows : List Ty → Cells → Type 0
AreRows [] [] = Unit {0}
AreRows (ty ∷ types) (row ∷ rows) = AreAll ty row × AreRows types rows
AreRows _ _ = ⊥

-- each value is of its own type
abbrev pub AreOf : List Ty → List ℤ → Type 0
AreOf [] [] = Unit {0}
AreOf (ty ∷ types) (z ∷ zs) = InRange ty z × AreOf types zs
AreOf _ _ = ⊥

-- each write is of a cell that exists
abbrev pub AllExist : List ℕ → List Write → Type 0
AllExist counts [] = Unit {0}
AllExist counts (w ∷ ws) = IsAmong counts w.storage w.index × AllExist counts ws

-- the value of each write is of its cell's type
abbrev pub AreTyped : List Ty → List Write → Type 0
AreTyped types [] = Unit {0}
AreTyped types (w ∷ ws) = IsOf types w.storage w.value × AreTyped types ws

-- at most one write for each cell, each of a cell that exists, room for one for each cell, and each value of its type
pub record IsState (s : Shown) (room : ℕ) : Type 0 where
  pub distinct : IsDistinct eqb (places (sizes s.cells) s.kept)
  pub exist : AllExist (sizes s.cells) s.kept
  pub fits : total (sizes s.cells) ≤ room
  pub rows : AreRows s.types s.cells
  pub trn_values : AreOf s.trn_types s.trns
  pub writes : AreTyped s.types s.kept

-- the parts of the state in which a machine begins: the types and cells of storages and how many cells there are, the types and values of transitories
pub record AreParts (t : Table) (types : List Ty) (cells : Cells) (count : ℕ) (trns_of : List Ty) (trns : List ℤ) : Type 0 where
  pub types_are : types ≡ map (λ s. s.1) (storages t)
  pub cells_are : cells ≡ map (λ s. replicate s.0 (pos 0)) (storages t)
  pub count_is : count ≡ total (sizes cells)
  pub trns_of_are : trns_of ≡ trn_types t
  pub trns_are : trns ≡ map (λ ty. pos 0) (trn_types t)
