-- A description in which names, types and widths are right is lawful.
use Rattle.std.proofs.Common.{ℕ, zero, suc, List, [], ◌∷◌, ◌++◌, ◌≡◌, length, map, refl, ◌∙◌, ap, subst, Some, inl, inr}
use Rattle.std.specs.Prelude.{filter, slice_get}
use Rattle.nk_base.specs.declared.number.Ty.{Ty}
use Rattle.nml_tree.specs.declared.tree.Item.{Item}
use Rattle.nml_tree.specs.declared.tree.Item.TheVariants as item
use Rattle.nml_tree.specs.declared.tree.Desc.{Desc}
use Rattle.nml_tree.specs.declared.tree.PortWord.{PortWord}
use Rattle.nml_tree.specs.declared.tree.PortWord.TheVariants as port
use Rattle.nml_tree.specs.Table.{Text, Table, Declared, declared, table, entries, entry, port_of, type_or_none, is_storage, is_trn}
use Rattle.nml_tree.specs.Exec.{storages, trn_types}
use Rattle.nml_tree.specs.Refused.{IsFreeBelow}
use Rattle.nml_state.proofs.StateLaws.{storages_append, trn_types_append}
use Rattle.nml_state.proofs.Lookups.{lookup_last}
use Rattle.nml_widths.proofs.WidthLaws.{action_sound}
use Rattle.attr_exec.specs.Ready.{IsLawful}

get_left : {A : Type 0} (xs ys : List A) (n : ℕ) (x : A) → slice_get xs n ≡ Some x → slice_get (xs ++ ys) n ≡ Some x
get_left [] ys n x h = absurd cc
get_left (y ∷ xs) ys zero x h = h
get_left (y ∷ xs) ys (suc n) x h = get_left xs ys n x h

get_last : {A : Type 0} (xs : List A) (x : A) → slice_get (xs ++ x ∷ []) (length xs) ≡ Some x
get_last [] x = refl
get_last (y ∷ xs) x = get_last xs x

pub get_mapped : {A B : Type 0} (f : A → B) (xs : List A) (n : ℕ) (x : A) → slice_get xs n ≡ Some x → slice_get (map f xs) n ≡ Some (f x)
get_mapped f [] n x h = absurd cc
get_mapped f (y ∷ xs) zero x h = let e : y ≡ x = cc in ap (λ z. Some (f z)) e
get_mapped f (y ∷ xs) (suc n) x h = get_mapped f xs n x h

storage_count : (t : Table) → length (filter is_storage t) ≡ length (storages t)
storage_count [] = refl
storage_count ((name, Declared.Constant z) ∷ t) = storage_count t
storage_count ((name, Declared.TypeName ty) ∷ t) = storage_count t
storage_count ((name, Declared.Storage n k ty) ∷ t) = ap suc (storage_count t)
storage_count ((name, Declared.Trn n ty) ∷ t) = storage_count t
storage_count ((name, Declared.Inp ty) ∷ t) = storage_count t
storage_count ((name, Declared.Out ty) ∷ t) = storage_count t
storage_count ((name, Declared.Or mode names) ∷ t) = storage_count t
storage_count ((name, Declared.And rule) ∷ t) = storage_count t

trn_count : (t : Table) → length (filter is_trn t) ≡ length (trn_types t)
trn_count [] = refl
trn_count ((name, Declared.Constant z) ∷ t) = trn_count t
trn_count ((name, Declared.TypeName ty) ∷ t) = trn_count t
trn_count ((name, Declared.Storage n k ty) ∷ t) = trn_count t
trn_count ((name, Declared.Trn n ty) ∷ t) = ap suc (trn_count t)
trn_count ((name, Declared.Inp ty) ∷ t) = trn_count t
trn_count ((name, Declared.Out ty) ∷ t) = trn_count t
trn_count ((name, Declared.Or mode names) ∷ t) = trn_count t
trn_count ((name, Declared.And rule) ∷ t) = trn_count t

-- each storage and each transitory stands at its number
abbrev pub Numbered : Table → Type 0
Numbered t =
    ((name : Text) (n k : ℕ) (ty : Ty) → declared t name ≡ Some (Declared.Storage n k ty) → slice_get (storages t) n ≡ Some (k, ty))
    × ((name : Text) (n : ℕ) (ty : Ty) → declared t name ≡ Some (Declared.Trn n ty) → slice_get (trn_types t) n ≡ Some ty)

no_port_storage : (t : Table) (w : PortWord) (ty x : Ty) (n k : ℕ) → port_of t w ty ≡ Declared.Storage n k x → ⊥
no_port_storage t (port.Trn at) ty x n k h = cc
no_port_storage t (port.Inp at) ty x n k h = cc
no_port_storage t (port.Out at) ty x n k h = cc

same_storage : (a b c d : ℕ) (x y : Ty) → Declared.Storage a c x ≡ Declared.Storage b d y → (a ≡ b) × (c ≡ d) × (x ≡ y)
same_storage a b c d x y h = (cc, cc, cc)

same_trn : (a b : ℕ) (x y : Ty) → Declared.Trn a x ≡ Declared.Trn b y → (a ≡ b) × (x ≡ y)
same_trn a b x y h = (cc, cc)

storage_last : (t : Table) (n k : ℕ) (ty : Ty) (name : Text) → n ≡ length (filter is_storage t) → slice_get (storages (t ++ (name, Declared.Storage n k ty) ∷ [])) n ≡ Some (k, ty)
storage_last t n k ty name is =
    ap (λ xs. slice_get xs n) (storages_append t ((name, Declared.Storage n k ty) ∷ [])) ∙ ap (λ j. slice_get (storages t ++ (k, ty) ∷ []) j) (is ∙ storage_count t) ∙ get_last (storages t) (k, ty)

trn_last : (t : Table) (n : ℕ) (ty : Ty) (name : Text) → n ≡ length (filter is_trn t) → slice_get (trn_types (t ++ (name, Declared.Trn n ty) ∷ [])) n ≡ Some ty
trn_last t n ty name is =
    let a : trn_types (t ++ (name, Declared.Trn n ty) ∷ []) ≡ trn_types t ++ ty ∷ [] = trn_types_append t ((name, Declared.Trn n ty) ∷ []) in
    ap (λ xs. slice_get xs n) a ∙ ap (λ j. slice_get (trn_types t ++ ty ∷ []) j) (is ∙ trn_count t) ∙ get_last (trn_types t) ty

storage_here : (t : Table) (i : Item) (n k : ℕ) (ty : Ty) → (entry t i).1 ≡ Declared.Storage n k ty → slice_get (storages (t ++ entry t i ∷ [])) n ≡ Some (k, ty)
storage_here t (item.Let at m equals minus z) n k ty h = absurd cc
storage_here t (item.Type at m equals x) n k ty h = absurd cc
storage_here t (item.Storage s) n k ty h =
    let e = same_storage _ n _ k _ ty h in
    subst (λ j. slice_get (storages (t ++ entry t (item.Storage s) ∷ [])) j ≡ Some (k, ty)) e.0 (storage_last t _ _ _ s.name.text refl ∙ ap (λ m. Some (m, type_or_none t s.ty)) e.1 ∙ ap (λ u. Some (k, u)) e.2)
storage_here t (item.Port p) n k ty h = absurd (no_port_storage t p.word _ ty n k h)
storage_here t (item.OrRule r) n k ty h = absurd cc
storage_here t (item.OpRule r) n k ty h = absurd cc
storage_here t (item.ModeRule r) n k ty h = absurd cc

port_here : (t : Table) (name : Text) (w : PortWord) (x : Ty) (n : ℕ) (ty : Ty) → port_of t w x ≡ Declared.Trn n ty → slice_get (trn_types (t ++ (name, port_of t w x) ∷ [])) n ≡ Some ty
port_here t name (port.Trn at) x n ty h =
    let e = same_trn _ n _ ty h in
    subst (λ j. slice_get (trn_types (t ++ (name, port_of t (port.Trn at) x) ∷ [])) j ≡ Some ty) e.0 (trn_last t _ _ name refl ∙ ap Some e.1)
port_here t name (port.Inp at) x n ty h = absurd cc
port_here t name (port.Out at) x n ty h = absurd cc

trn_here : (t : Table) (i : Item) (n : ℕ) (ty : Ty) → (entry t i).1 ≡ Declared.Trn n ty → slice_get (trn_types (t ++ entry t i ∷ [])) n ≡ Some ty
trn_here t (item.Let at m equals minus z) n ty h = absurd cc
trn_here t (item.Type at m equals x) n ty h = absurd cc
trn_here t (item.Storage s) n ty h = absurd cc
trn_here t (item.Port p) n ty h = port_here t p.name.text p.word _ n ty h
trn_here t (item.OrRule r) n ty h = absurd cc
trn_here t (item.OpRule r) n ty h = absurd cc
trn_here t (item.ModeRule r) n ty h = absurd cc

numbered_next : (t : Table) (i : Item) → Numbered t → Numbered (t ++ entry t i ∷ [])
numbered_next t i h = (
  λ name n k ty is. elim (lookup_last t (entry t i) name _ is) [
    | inl old ↦ ap (λ xs. slice_get xs n) (storages_append t (entry t i ∷ [])) ∙ get_left (storages t) _ n (k, ty) (h.0 name n k ty old)
    | inr new ↦ storage_here t i n k ty new
  ],
  λ name n ty is. elim (lookup_last t (entry t i) name _ is) [
    | inl old ↦ ap (λ xs. slice_get xs n) (trn_types_append t (entry t i ∷ [])) ∙ get_left (trn_types t) _ n ty (h.1 name n ty old)
    | inr new ↦ trn_here t i n ty new
  ],
)

numbered : (items : List Item) (t : Table) → Numbered t → Numbered (entries t items)
numbered [] t h = h
numbered (i ∷ items) t h = numbered items (t ++ entry t i ∷ []) (numbered_next t i h)

pub all_numbered : (d : Desc) → Numbered (table d)
all_numbered d = numbered d.items [] (λ name n k ty is. absurd cc, λ name n ty is. absurd cc)

pub lawful : (d : Desc) → IsFreeBelow 8 d → IsLawful (table d)
lawful d free = record {
  sound = λ v typed name rule args k is stand. (let s = action_sound d free v typed name rule args k is stand in (s.0, s.2));
  storage_types = λ name n k ty is. get_mapped (λ s. s.1) (storages (table d)) n (k, ty) ((all_numbered d).0 name n k ty is);
  trn_types_are = (all_numbered d).1;
}
