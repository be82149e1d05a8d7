-- Storages and transitories, counted item by item.
use Rattle.std.proofs.Common.{ℕ, ◌+◌, ◌<◌, ◌≤◌, List, [], ◌∷◌, ◌++◌, ◌≡◌, length, take, get_or, arith, refl, sym, ◌∙◌, ap, Bool, true, false}
use Rattle.std.specs.Prelude.{filter, if◌then◌else◌}
use Rattle.nml_tree.specs.declared.tree.Item.{Item}
use Rattle.nml_tree.specs.Table.{Text, Table, Declared, entries, entry}
use Rattle.nml_state.proofs.Lookups.{entries_next, entries_all}

filter_more : (p : Text × Declared → Bool) (x e : Text × Declared) (t : Table) (k : ℕ) (b : Bool) → p x ≡ b → length (filter p (t ++ e ∷ [])) ≡ length (filter p t) + k → length (filter p (x ∷ t ++ e ∷ [])) ≡ length (filter p (x ∷ t)) + k
filter_more p x e t k true is h = rw is (omega (arith, h))
filter_more p x e t k false is h = rw is h

filter_one : (p : Text × Declared → Bool) (e : Text × Declared) (b : Bool) → p e ≡ b → length (filter p (e ∷ [])) ≡ (if b then 1 else 0)
filter_one p e true is = rw is refl
filter_one p e false is = rw is refl

pub filter_last : (p : Text × Declared → Bool) (t : Table) (e : Text × Declared) → length (filter p (t ++ e ∷ [])) ≡ length (filter p t) + (if p e then 1 else 0)
filter_last p [] e = let h = filter_one p e (p e) refl in omega (arith, h)
filter_last p (x ∷ t) e = filter_more p x e t (if p e then 1 else 0) (p x) refl (filter_last p t e)

pub next_count : (p : Text × Declared → Bool) (items : List Item) (i n : ℕ) (d : Item) (b : Bool) → i < length items → ((t : Table) → b ≡ p (entry t (get_or items i d))) → n ≡ length (filter p (entries [] (take i items)))
    → n + (if b then 1 else 0) ≡ length (filter p (entries [] (take (i + 1) items)))
next_count p items i n d b low is h =
    let e = filter_last p (entries [] (take i items)) (entry (entries [] (take i items)) (get_or items i d)) in
    ap (λ k. k + (if b then 1 else 0)) h ∙ ap (λ c. length (filter p (entries [] (take i items))) + (if c then 1 else 0)) (is (entries [] (take i items))) ∙ sym e ∙ ap (λ t. length (filter p t)) (sym (entries_next items i d low))

pub whole_count : (p : Text × Declared → Bool) (items : List Item) (i n : ℕ) → length items ≤ i → n ≡ length (filter p (entries [] (take i items))) → n ≡ length (filter p (entries [] items))
whole_count p items i n low h = h ∙ ap (λ t. length (filter p t)) (entries_all items i low)
