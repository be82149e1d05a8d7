-- The names of storages stand in the order of their numbers, and their types are of 1 to 64 bits.
use Rattle.std.proofs.Common.{ℕ, true, zero, suc, ◌+◌, ◌<◌, ◌≡◌, refl, sym, ◌∙◌, ap, subst, arith, List, [], ◌∷◌, ◌++◌, filter, get_or, length, take, Some}
use Rattle.std.specs.Prelude.{nat_le, slice_get, if◌then◌else◌}
use Rattle.std.proofs.lemmas.Bool.{and_parts, eq-eqb, leb-true, ne_eqb}
use Rattle.std.proofs.lemmas.List.Concat.{flat_map-append}
use Rattle.nk_base.specs.declared.number.Ty.{Ty}
use Rattle.nk_base.specs.declared.number.Ty.TheVariants as tys
use Rattle.nk_base.specs.Number.{IsTy}
use Rattle.nml_tree.specs.declared.tree.PortWord.{PortWord}
use Rattle.nml_tree.specs.declared.tree.PortWord.TheVariants as port
use Rattle.nml_tree.specs.declared.tree.Item.{Item}
use Rattle.nml_tree.specs.declared.tree.Item.TheVariants as item
use Rattle.nml_tree.specs.declared.tree.Desc.{Desc}
use Rattle.nml_tree.specs.Exec.{storages}
use Rattle.nml_tree.specs.Refused.{IsChecked, IsFreeBelow, IsTyped}
use Rattle.nml_tree.specs.Table.{Text, Table, Declared, entries, entry, is_storage, port_of, table}
use Rattle.nml_state.proofs.Lookups.{entries_next}
use Rattle.nml_tree.specs.Worth.{is_type}
use Rattle.nml_widths.proofs.WidthLaws.{is_sound}
use Rattle.asm_text.specs.Canonical.{storage_name}
use Rattle.asm_text.proofs.StorageNames.{storage_found}
use Rattle.disasm_tool.specs.Names.{name_listed, storage_names}

-- a storage has this number
abbrev IsNumbered : ℕ → Declared → Type 0
IsNumbered m (Declared.Storage n k ty) = n ≡ m
IsNumbered m _ = Unit {0}

-- the number behind it
abbrev behind : ℕ → Declared → ℕ
behind m (Declared.Storage n k ty) = suc m
behind m _ = m

-- storages are numbered in order from this number on
abbrev AreNumbered : ℕ → Table → Type 0
AreNumbered m [] = Unit {0}
AreNumbered m (e ∷ t) = IsNumbered m e.1 × AreNumbered (behind m e.1) t

one_counted : (m n : ℕ) (x : Declared) (name : Text) (t : Table) → length (filter is_storage t) ≡ n → m + length (filter is_storage ((name, x) ∷ t)) ≡ behind m x + n
one_counted m n (Declared.Constant z) name t is = omega (arith, is)
one_counted m n (Declared.TypeName ty) name t is = omega (arith, is)
one_counted m j (Declared.Storage n k ty) name t is = omega (arith, is)
one_counted m j (Declared.Trn n ty) name t is = omega (arith, is)
one_counted m n (Declared.Inp ty) name t is = omega (arith, is)
one_counted m n (Declared.Out ty) name t is = omega (arith, is)
one_counted m n (Declared.Or mode names) name t is = omega (arith, is)
one_counted m n (Declared.And rule) name t is = omega (arith, is)

numbered_push : (t : Table) (m : ℕ) (e : Text × Declared) → AreNumbered m t → IsNumbered (m + length (filter is_storage t)) e.1 → AreNumbered m (t ++ e ∷ [])
numbered_push [] m e h is = (subst (λ k. IsNumbered k e.1) (omega arith) is, tt)
numbered_push (x ∷ t) m e h is = (h.0, numbered_push t (behind m x.1) e h.1 (subst (λ k. IsNumbered k e.1) (one_counted m _ x.1 x.0 t refl) is))

port_numbered : (t : Table) (w : PortWord) (ty : Ty) (m : ℕ) → IsNumbered m (port_of t w ty)
port_numbered t (port.Trn at) ty m = tt
port_numbered t (port.Inp at) ty m = tt
port_numbered t (port.Out at) ty m = tt

entry_numbered : (t : Table) (i : Item) → IsNumbered (0 + length (filter is_storage t)) (entry t i).1
entry_numbered t (item.Let at n equals minus z) = tt
entry_numbered t (item.Type at n equals x) = tt
entry_numbered t (item.Storage s) = omega arith
entry_numbered t (item.Port p) = port_numbered t p.word _ _
entry_numbered t (item.OrRule r) = tt
entry_numbered t (item.OpRule r) = tt
entry_numbered t (item.ModeRule r) = tt

all_numbered : (items : List Item) (t : Table) → AreNumbered 0 t → AreNumbered 0 (entries t items)
all_numbered [] t h = h
all_numbered (i ∷ items) t h = all_numbered items (t ++ entry t i ∷ []) (numbered_push t 0 (entry t i) h (entry_numbered t i))

name_found : (t : Table) (m j : ℕ) (x : Text) → AreNumbered m t → slice_get (storage_names t) j ≡ Some x → x ≡ storage_name t (m + j)
name_found [] m j x h is = absurd cc
name_found ((name, Declared.Constant z) ∷ t) m j x h is = name_found t m j x h.1 is
name_found ((name, Declared.TypeName ty) ∷ t) m j x h is = name_found t m j x h.1 is
name_found ((name, Declared.Storage n k ty) ∷ t) m zero x h is =
    let here : n ≡ m + 0 = let e = h.0 in omega (arith, e) in
    let same : x ≡ name = cc in
    same ∙ sym (ap (λ b. if b then name else storage_name t (m + 0)) (eq-eqb n (m + 0) here))
name_found ((name, Declared.Storage n k ty) ∷ t) m (suc j) x h is =
    let next : suc m + j ≡ m + suc j = omega arith in
    let other : n ≡ m + suc j → ⊥ = λ same. let e = h.0 in omega (arith, e, same) in
    subst (λ i. x ≡ storage_name t i) next (name_found t (suc m) j x h.1 is) ∙ sym (ap (λ b. if b then name else storage_name t (m + suc j)) (ne_eqb n (m + suc j) other))
name_found ((name, Declared.Trn n ty) ∷ t) m j x h is = name_found t m j x h.1 is
name_found ((name, Declared.Inp ty) ∷ t) m j x h is = name_found t m j x h.1 is
name_found ((name, Declared.Out ty) ∷ t) m j x h is = name_found t m j x h.1 is
name_found ((name, Declared.Or mode names) ∷ t) m j x h is = name_found t m j x h.1 is
name_found ((name, Declared.And rule) ∷ t) m j x h is = name_found t m j x h.1 is

pub name_is : (d : Desc) (n : ℕ) (x : Text) → slice_get (storage_names (table d)) n ≡ Some x → x ≡ storage_name (table d) n
name_is d n x is =
    let same : 0 + n ≡ n = omega arith in
    subst (λ i. x ≡ storage_name (table d) i) same (name_found (table d) 0 n x (all_numbered d.items [] tt) is)

pub names_long : (t : Table) → length (storage_names t) ≡ length (storages t)
names_long [] = refl
names_long ((name, Declared.Constant z) ∷ t) = names_long t
names_long ((name, Declared.TypeName ty) ∷ t) = names_long t
names_long ((name, Declared.Storage n k ty) ∷ t) = ap suc (names_long t)
names_long ((name, Declared.Trn n ty) ∷ t) = names_long t
names_long ((name, Declared.Inp ty) ∷ t) = names_long t
names_long ((name, Declared.Out ty) ∷ t) = names_long t
names_long ((name, Declared.Or mode names) ∷ t) = names_long t
names_long ((name, Declared.And rule) ∷ t) = names_long t

is_ty : (ty : Ty) → is_type ty ≡ true → IsTy ty
is_ty tys.Bool h = tt
is_ty (tys.Card n) h = let p = and_parts (nat_le 1 n) (nat_le n 64) h in (leb-true 1 n p.0, leb-true n 64 p.1)
is_ty (tys.Int n) h = let p = and_parts (nat_le 1 n) (nat_le n 64) h in (leb-true 1 n p.0, leb-true n 64 p.1)

pub type_right : (d : Desc) → IsChecked d → (n k : ℕ) (ty : Ty) → slice_get (storages (table d)) n ≡ Some (k, ty) → IsTy ty
type_right d checked n k ty is =
    let typed : IsTyped d = λ j low. checked.free j (omega (arith, low)) in
    let free : IsFreeBelow 8 d = λ j low. checked.free j (omega (arith, low)) in
    is_ty ty ((is_sound d free).names (storage_name (table d) n) (Declared.Storage n k ty) (storage_found d typed n k ty is))

-- one item more
pub next_name : (items : List Item) (k : ℕ) (d i : Item) (old new : List Text) → k < length items → i ≡ get_or items k d → old ≡ storage_names (entries [] (take k items))
    → ((t : Table) → new ≡ old ++ storage_names (entry t i ∷ [])) → new ≡ storage_names (entries [] (take (k + 1) items))
next_name items k d i old new low is before after =
    let t : Table = entries [] (take k items) in
    after t
    ∙ (ap (λ x. old ++ storage_names (entry t x ∷ [])) is
    ∙ (ap (λ xs. xs ++ storage_names (entry t (get_or items k d) ∷ [])) before
    ∙ (sym (flat_map-append name_listed t (entry t (get_or items k d) ∷ [])) ∙ ap storage_names (sym (entries_next items k d low)))))
