-- Beyond the limits it doesn't matter by how much they are passed.
use Rattle.std.proofs.Common.{ℕ, ◌+◌, ◌≤◌, ◌<◌, ◌==◌, min, nat_le, nat_lt, Bool, true, false, ◌&&◌, List, [], ◌∷◌, ◌++◌, ◌≡◌, refl, ap, sym, ◌∙◌, Option, arith}
use Rattle.std.proofs.lemmas.Bool.Decides.{nat_tests}
use Rattle.nml_names.specs.Note.{noted}
use Rattle.nml_names.proofs.Notes.{noted_append}
use Rattle.nml_tree.specs.declared.tree.Storage.{Storage}
use Rattle.nml_tree.specs.declared.tree.Item.{Item}
use Rattle.nml_tree.specs.declared.tree.Item.TheVariants as item
use Rattle.nml_tree.specs.Places.{when}
use Rattle.nml_tree.specs.Table.{Table, size_or_none}
use Rattle.nml_tree.specs.WidthFault.{storage_places}

same_cells : (cells size : ℕ) → (nat_le cells 1048576 && nat_lt 1048576 (cells + size)) ≡ (nat_le (min cells 1048577) 1048576 && nat_lt 1048576 (min cells 1048577 + size))
same_cells cells size = grind (arith, nat_tests)

same_storages : (n : ℕ) → (n == 65536) ≡ (min n 65537 == 65536)
same_storages n = grind (arith, nat_tests)

-- what is known of the storages so far, no more than one above the limits
pub saturated : (t : Table) (cells storages : ℕ) (items : List Item) → storage_places t cells storages items ≡ storage_places t (min cells 1048577) (min storages 65537) items
saturated t cells storages [] = refl
saturated t cells storages (item.Storage s ∷ items) =
    let size = size_or_none t s.size in
    let a = saturated t (cells + size) (storages + 1) items in
    let b = saturated t (min cells 1048577 + size) (min storages 65537 + 1) items in
    let c : min (min cells 1048577 + size) 1048577 ≡ min (cells + size) 1048577 = omega arith in
    let n : min (min storages 65537 + 1) 65537 ≡ min (storages + 1) 65537 = omega arith in
    rw (same_cells cells size, same_storages storages, a, b, c, n) refl
saturated t cells storages (item.Let at n equals minus z ∷ items) = saturated t cells storages items
saturated t cells storages (item.Type at n equals e ∷ items) = saturated t cells storages items
saturated t cells storages (item.Port p ∷ items) = saturated t cells storages items
saturated t cells storages (item.OrRule r ∷ items) = saturated t cells storages items
saturated t cells storages (item.OpRule r ∷ items) = saturated t cells storages items
saturated t cells storages (item.ModeRule r ∷ items) = saturated t cells storages items

cells_pass : (cells sum whole : ℕ) → sum ≡ min whole 1048577 → (nat_le cells 1048576 && nat_lt 1048576 whole) ≡ (nat_le cells 1048576 && nat_lt 1048576 sum)
cells_pass cells sum whole is = grind (arith, nat_tests)

-- one storage more
pub one_storage : (t : Table) (s : Storage) (cells storages size sum count : ℕ) (found one two : Option ℕ) (items : List Item)
    → size ≡ size_or_none t s.size → sum ≡ min (cells + size) 1048577 → count ≡ min (storages + 1) 65537
    → one ≡ noted found (when (nat_le cells 1048576 && nat_lt 1048576 sum) s.name.at) → two ≡ noted one (when (storages == 65536) s.name.at)
    → noted found (storage_places t cells storages (item.Storage s ∷ items)) ≡ noted two (storage_places t sum count items)
one_storage t s cells storages size sum count found one two items z a b o w =
    let cellwise = when (nat_le cells 1048576 && nat_lt 1048576 sum) s.name.at in
    let numberwise = when (storages == 65536) s.name.at in
    let rest = storage_places t sum count items in
    let whole : storage_places t (cells + size) (storages + 1) items ≡ rest = saturated t (cells + size) (storages + 1) items ∙ rw (← a, ← b) refl in
    rw (← z, cells_pass cells sum (cells + size) a, whole, w, o) (noted_append found (cellwise ++ numberwise) rest ∙ ap (λ f. noted f rest) (noted_append found cellwise numberwise))
