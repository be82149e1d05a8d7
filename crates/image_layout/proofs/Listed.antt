-- The storages of a description, item by item.
use Rattle.std.proofs.Common.{ℕ, ◌+◌, ◌<◌, ◌≤◌, List, [], ◌∷◌, ◌++◌, ◌≡◌, take, get_or, length, sym, ◌∙◌, ap, subst, Option, Some}
use Rattle.nk_base.specs.declared.number.Ty.{Ty}
use Rattle.nml_tree.specs.declared.tree.Desc.{Desc}
use Rattle.nml_tree.specs.declared.tree.Item.{Item}
use Rattle.nml_tree.specs.Table.{Table, declared, table, entry, entries}
use Rattle.nml_tree.specs.Exec.{storages}
use Rattle.nml_tree.specs.Refused.{IsTyped}
use Rattle.nml_state.proofs.Lookups.{entries_next, entries_all}
use Rattle.nml_state.proofs.StateLaws.{storages_append}
use Rattle.image_layout.specs.Stored.{IsRight, listed}
use Rattle.image_layout.proofs.Named.{declared_here}
use Rattle.image_layout.proofs.Sizes.{right_here}

-- what an item adds
next_storage : (d : Desc) → IsTyped d → (k : ℕ) (i : Item) (o : Option (ℕ × Ty)) → k < length d.items → i ≡ get_or d.items k i
    → ((t : Table) → declared (table d) (entry t i).0 ≡ Some (entry t i).1 → IsRight (entry t i).1 → listed o ≡ storages (entry t i ∷ []))
    → storages (entries [] (take (k + 1) d.items)) ≡ storages (entries [] (take k d.items)) ++ listed o
next_storage d typed k i o low is told =
    let t : Table = entries [] (take k d.items) in
    let here = subst (λ x. declared (table d) (entry t x).0 ≡ Some (entry t x).1) (sym is) (declared_here d typed k i low) in
    let right = subst (λ x. IsRight (entry t x).1) (sym is) (right_here d typed k i low) in
    ap storages (entries_next d.items k i low) ∙ storages_append t (entry t (get_or d.items k i) ∷ []) ∙ ap (λ x. storages t ++ storages (entry t x ∷ [])) (sym is) ∙ ap (λ xs. storages t ++ xs) (sym (told t here right))

pub storages_next : (d : Desc) → IsTyped d → (items : List Item) → items ≡ d.items → (k : ℕ) (i : Item) (o : Option (ℕ × Ty)) (old new : List (ℕ × Ty)) → k < length items → i ≡ get_or items k i
    → ((t : Table) → declared (table d) (entry t i).0 ≡ Some (entry t i).1 → IsRight (entry t i).1 → listed o ≡ storages (entry t i ∷ []))
    → old ≡ storages (entries [] (take k items)) → new ≡ old ++ listed o → new ≡ storages (entries [] (take (k + 1) items))
storages_next d typed items same k i o old new low is told before after =
    let whole : List Item = d.items in
    let at : i ≡ get_or whole k i = subst (λ xs. i ≡ get_or xs k i) same is in
    let next = next_storage d typed k i o (subst (λ xs. k < length xs) same low) at told in
    after ∙ ap (λ xs. xs ++ listed o) (subst (λ xs. old ≡ storages (entries [] (take k xs))) same before) ∙ sym next ∙ ap (λ xs. storages (entries [] (take (k + 1) xs))) (sym same)

pub all_storages : (d : Desc) (items : List Item) (k : ℕ) (found : List (ℕ × Ty)) → items ≡ d.items → length items ≤ k → found ≡ storages (entries [] (take k items)) → found ≡ storages (table d)
all_storages d items k found same low is = is ∙ ap storages (entries_all items k low) ∙ ap (λ xs. storages (entries [] xs)) same
