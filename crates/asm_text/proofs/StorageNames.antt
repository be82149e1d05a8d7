-- The storage of a number has a name, by which it is found.
use Rattle.std.proofs.Common.{ℕ, zero, suc, ◌+◌, ◌<◌, ◌==◌, ◌≡◌, refl, sym, ◌∙◌, ap, subst, Bool, true, false, List, [], ◌∷◌, ◌++◌, filter, length, take, get_or, Option, Some, None, Contains, arith, ◌⊎◌, inl, inr}
use Rattle.std.specs.Prelude.{slice_get, if◌then◌else◌}
use Rattle.std.proofs.lemmas.Bool.{eq-eqb, ne_eqb}
use Rattle.std.proofs.lemmas.List.Elements.{Contains-push_cases}
use Rattle.nk_base.specs.declared.number.Ty.{Ty}
use Rattle.nml_tree.specs.declared.tree.PortWord.{PortWord}
use Rattle.nml_tree.specs.declared.tree.PortWord.TheVariants as port
use Rattle.nml_tree.specs.declared.tree.Item.{Item}
use Rattle.nml_tree.specs.declared.tree.Item.TheVariants as item
use Rattle.nml_tree.specs.declared.tree.Desc.{Desc}
use Rattle.nml_tree.specs.Exec.{storages}
use Rattle.nml_tree.specs.Refused.{IsTyped}
use Rattle.nml_tree.specs.Table.{Text, Table, Declared, declared, table, entry, entries, port_of, is_storage}
use Rattle.image_layout.proofs.Named.{declared_here}
use Rattle.asm_text.specs.Canonical.{storage_name}
use Rattle.asm_text.proofs.Inits.{behind}

-- storages are numbered in order from this number on
abbrev AreCounted : ℕ → Table → Type 0
AreCounted m [] = Unit {0}
AreCounted m ((name, Declared.Storage n k ty) ∷ t) = (n ≡ m) × AreCounted (suc m) t
AreCounted m ((name, _) ∷ t) = AreCounted m t

abbrev IsNext : ℕ → Declared → Type 0
IsNext m (Declared.Storage n k ty) = n ≡ m
IsNext m _ = Unit {0}

counted_one : (m : ℕ) (name : Text) (x : Declared) → IsNext m x → AreCounted m ((name, x) ∷ [])
counted_one m name (Declared.Constant z) h = tt
counted_one m name (Declared.TypeName ty) h = tt
counted_one m name (Declared.Storage n k ty) h = (h, tt)
counted_one m name (Declared.Trn n ty) h = tt
counted_one m name (Declared.Inp ty) h = tt
counted_one m name (Declared.Out ty) h = tt
counted_one m name (Declared.Or mode names) h = tt
counted_one m name (Declared.And rule) h = tt

counted_push : (t : Table) (m : ℕ) (e : Text × Declared) → AreCounted m t → IsNext (m + length (filter is_storage t)) e.1 → AreCounted m (t ++ e ∷ [])
counted_push [] m e h next = counted_one m e.0 e.1 (subst (λ k. IsNext k e.1) (omega arith) next)
counted_push ((name, Declared.Constant z) ∷ t) m e h next = counted_push t m e h next
counted_push ((name, Declared.TypeName ty) ∷ t) m e h next = counted_push t m e h next
counted_push ((name, Declared.Storage n k ty) ∷ t) m e h next =
    let same : m + suc (length (filter is_storage t)) ≡ suc m + length (filter is_storage t) = omega arith in
    (h.0, counted_push t (suc m) e h.1 (subst (λ j. IsNext j e.1) same next))
counted_push ((name, Declared.Trn n ty) ∷ t) m e h next = counted_push t m e h next
counted_push ((name, Declared.Inp ty) ∷ t) m e h next = counted_push t m e h next
counted_push ((name, Declared.Out ty) ∷ t) m e h next = counted_push t m e h next
counted_push ((name, Declared.Or mode names) ∷ t) m e h next = counted_push t m e h next
counted_push ((name, Declared.And rule) ∷ t) m e h next = counted_push t m e h next

next_port : (t : Table) (w : PortWord) (ty : Ty) (m : ℕ) → IsNext m (port_of t w ty)
next_port t (port.Trn at) ty m = tt
next_port t (port.Inp at) ty m = tt
next_port t (port.Out at) ty m = tt

next_entry : (t : Table) (i : Item) → IsNext (0 + length (filter is_storage t)) (entry t i).1
next_entry t (item.Let at n equals minus z) = tt
next_entry t (item.Type at n equals x) = tt
next_entry t (item.Storage s) = omega arith
next_entry t (item.Port p) = next_port t p.word _ _
next_entry t (item.OrRule r) = tt
next_entry t (item.OpRule r) = tt
next_entry t (item.ModeRule r) = tt

all_counted : (items : List Item) (t : Table) → AreCounted 0 t → AreCounted 0 (entries t items)
all_counted [] t h = h
all_counted (i ∷ items) t h = all_counted items (t ++ entry t i ∷ []) (counted_push t 0 (entry t i) h (next_entry t i))

-- the table has the storage of this number by its name
abbrev Has : Table → ℕ → ℕ → Ty → Type 0
Has t n k ty = Contains t (storage_name t n, Declared.Storage n k ty)

named : (t : Table) (a b : Text) (x y : Declared) → a ≡ b → x ≡ y → Contains t (a, x) → Contains t (b, y)
named t a b x y e f c = subst (λ v. Contains t (b, v)) f (subst (λ u. Contains t (u, x)) e c)

first_here : (t : Table) (name : Text) (n k : ℕ) (ty : Ty) (m i : ℕ) (u : Ty) → n ≡ m → k ≡ i → ty ≡ u → Has ((name, Declared.Storage n k ty) ∷ t) m i u
first_here t name n k ty m i u a b e =
    let whole : Table = (name, Declared.Storage n k ty) ∷ t in
    named whole name (storage_name whole m) (Declared.Storage n k ty) (Declared.Storage m i u) (sym (ap (λ c. if c then name else storage_name t m) (eq-eqb n m a)))
    (ap (λ j. Declared.Storage j k ty) a ∙ (ap (λ j. Declared.Storage m j ty) b ∙ ap (Declared.Storage m i) e)) (0, omega arith, refl)

later_here : (t : Table) (name : Text) (n k : ℕ) (ty : Ty) (m i : ℕ) (u : Ty) → (n ≡ m → ⊥) → Has t m i u → Has ((name, Declared.Storage n k ty) ∷ t) m i u
later_here t name n k ty m i u other c =
    let whole : Table = (name, Declared.Storage n k ty) ∷ t in
    named whole (storage_name t m) (storage_name whole m) (Declared.Storage m i u) (Declared.Storage m i u) (sym (ap (λ b. if b then name else storage_name t m) (ne_eqb n m other))) refl
    (behind (name, Declared.Storage n k ty) t (storage_name t m, Declared.Storage m i u) c)

size_in : ℕ → Option (ℕ × Ty) → ℕ
size_in d None = d
size_in d (Some p) = p.0

type_in : Ty → Option (ℕ × Ty) → Ty
type_in d None = d
type_in d (Some p) = p.1

same_storage : (p q : ℕ × Ty) → Some p ≡ Some q → (p.0 ≡ q.0) × (p.1 ≡ q.1)
unfolding size_in type_in
same_storage p q e = (ap (size_in p.0) e, ap (type_in p.1) e)

storage_at : (t : Table) (m j k : ℕ) (ty : Ty) → AreCounted m t → slice_get (storages t) j ≡ Some (k, ty) → Has t (m + j) k ty
storage_at [] m j k ty h is = absurd cc
storage_at ((name, Declared.Constant z) ∷ t) m j k ty h is = behind (name, Declared.Constant z) t _ (storage_at t m j k ty h is)
storage_at ((name, Declared.TypeName u) ∷ t) m j k ty h is = behind (name, Declared.TypeName u) t _ (storage_at t m j k ty h is)
storage_at ((name, Declared.Storage n i u) ∷ t) m zero k ty h is =
    let s = same_storage (i, u) (k, ty) is in first_here t name n i u (m + 0) k ty (let e = h.0 in omega (arith, e)) s.0 s.1
storage_at ((name, Declared.Storage n i u) ∷ t) m (suc j) k ty h is =
    let same : suc m + j ≡ m + suc j = omega arith in
    later_here t name n i u (m + suc j) k ty (λ e. let f = h.0 in omega (arith, e, f)) (subst (λ x. Has t x k ty) same (storage_at t (suc m) j k ty h.1 is))
storage_at ((name, Declared.Trn n u) ∷ t) m j k ty h is = behind (name, Declared.Trn n u) t _ (storage_at t m j k ty h is)
storage_at ((name, Declared.Inp u) ∷ t) m j k ty h is = behind (name, Declared.Inp u) t _ (storage_at t m j k ty h is)
storage_at ((name, Declared.Out u) ∷ t) m j k ty h is = behind (name, Declared.Out u) t _ (storage_at t m j k ty h is)
storage_at ((name, Declared.Or mode names) ∷ t) m j k ty h is = behind (name, Declared.Or mode names) t _ (storage_at t m j k ty h is)
storage_at ((name, Declared.And rule) ∷ t) m j k ty h is = behind (name, Declared.And rule) t _ (storage_at t m j k ty h is)

-- an entry of the table is that of an item
abbrev IsPlaced : List Item → Table → Text × Declared → Type 0
IsPlaced items t e = (k : ℕ) × (x : Item) × (k < length items) × (e ≡ entry (entries t (take k items)) (get_or items k x))

in_entries : (items : List Item) (t : Table) (e : Text × Declared) → Contains (entries t items) e → Contains t e ⊎ IsPlaced items t e
in_entries [] t e c = inl c
in_entries (i ∷ items) t e c =
    elim (in_entries items (t ++ entry t i ∷ []) e c) [
      | inl a ↦ elim (Contains-push_cases t (entry t i) e a) [ inl b ↦ inl b | inr same ↦ inr (0, i, omega arith, sym same) ]
      | inr p ↦ inr (suc p.0, p.1, omega (arith, p.2), p.3)
    ]

-- so a storage is declared by its name
pub storage_found : (d : Desc) → IsTyped d → (n k : ℕ) (ty : Ty) → slice_get (storages (table d)) n ≡ Some (k, ty) → declared (table d) (storage_name (table d) n) ≡ Some (Declared.Storage n k ty)
storage_found d typed n k ty is =
    let zero_more : 0 + n ≡ n = omega arith in
    let c = subst (λ x. Has (table d) x k ty) zero_more (storage_at (table d) 0 n k ty (all_counted d.items [] tt) is) in
    elim (in_entries d.items [] (storage_name (table d) n, Declared.Storage n k ty) c) [
      | inl none ↦ absurd (omega (arith, none.1))
      | inr p ↦ subst (λ (e : Text × Declared). declared (table d) e.0 ≡ Some e.1) (sym p.3) (declared_here d typed p.0 p.1 p.2)
    ]
