-- In a description in which all is right PC is a card, and the `out` has 32 bits at most.
use Rattle.std.proofs.Common.{ℕ, zero, suc, ◌+◌, List, [], ◌∷◌, ◌++◌, ◌≡◌, ℤ, map, length, arith, refl, sym, ◌∙◌, ap, subst, Some, None, Option, Bool, true, false, cond, Contains, ◌⊎◌, inl, inr}
use Rattle.std.specs.Prelude.{filter, ◌&&◌, not, flat_map, option_map, option_and_then, unwrap_or, slice_get, codes}
use Rattle.std.specs.List.{list_any}
use Rattle.std.specs.Map.{lookup}
use Rattle.std.specs.Cmp.Lexicographic.{bytes_decides}
use Rattle.std.proofs.lemmas.Bool.{leb-true}
use Rattle.nk_base.specs.Text.{text_eq}
use Rattle.nk_base.specs.declared.number.Ty.{Ty}
use Rattle.nk_base.specs.declared.number.Ty.TheVariants as tys
use Rattle.nml_tree.specs.declared.tree.Item.{Item}
use Rattle.nml_tree.specs.declared.tree.Item.TheVariants as item
use Rattle.nml_tree.specs.declared.tree.Desc.{Desc}
use Rattle.nml_tree.specs.declared.tree.PortWord.{PortWord}
use Rattle.nml_tree.specs.declared.tree.PortWord.TheVariants as port
use Rattle.nml_tree.specs.declared.tree.Size.{Size}
use Rattle.nml_tree.specs.declared.tree.Size.TheVariants as size
use Rattle.nml_tree.specs.declared.tree.TypeExpr.{TypeExpr}
use Rattle.nml_tree.specs.declared.tree.TypeExpr.TheVariants as type_expr
use Rattle.nml_tree.specs.declared.fault.Root.TheVariants as root
use Rattle.nml_tree.specs.Table.{Text, Table, Declared, declared, table, entries, entry, port_of, constant, natural, type_named, size_of, size_number, size_or_none, is_storage, type_of, type_or_none}
use Rattle.nml_tree.specs.Uses.{declares, parameters}
use Rattle.nml_tree.specs.Places.{when}
use Rattle.nml_tree.specs.NameFault.{is_among, is_register, is_rule, are_same_port, unknown_places, declared_places, parameter_places, shared_places, item_name_places, name_places_from, name_places}
use Rattle.nml_tree.specs.TypeFault.{is_port_type, is_pc_type, is_within, pc_places, port_places, type_places, item_places, type_fault_places}
use Rattle.nml_tree.specs.Exec.{out_type, pc, storage_number, storages}
use Rattle.nml_tree.specs.Worth.{is_type}
use Rattle.attr_eval.proofs.Values.{width_is}
use Rattle.nml_tree.specs.Refused.{IsTyped, IsFreeBelow, By_name, By_type, By_root}
use Rattle.nml_state.specs.Cells.{Shown}
use Rattle.nml_state.proofs.Lookups.{kept, entry_name}
use Rattle.nml_widths.proofs.Fits.{no_left, no_right, unless_none, when_none}
use Rattle.attr_exec.specs.Ready.{IsLawful}
use Rattle.attr_exec.specs.Does.{IsPort, HasPc}

pub none_from : (xs : List ℕ) → ((at : ℕ) → Contains xs at → ⊥) → xs ≡ []
none_from [] h = refl
none_from (x ∷ xs) h = absurd (h x (0, omega arith, refl))

pub flat_none : (f : Item → List ℕ) (xs : List Item) (i : Item) → Contains xs i → flat_map f xs ≡ [] → f i ≡ []
flat_none f [] i c h = absurd (omega (arith, c.1))
flat_none f (x ∷ xs) i (zero, low, is) h = subst (λ y. f y ≡ []) is (no_left _ _ h)
flat_none f (x ∷ xs) i (suc k, low, is) h = flat_none f xs i (k, omega (arith, low), is) (no_right (f x) _ h)

last_here : (b : Bool) (y x : Declared) → cond b (Some y) None ≡ Some x → (y ≡ x) × (b ≡ true)
last_here true y x h = (cc, refl)
last_here false y x h = absurd cc

last_step : (b : Bool) (y x : Declared) (o p : Option Declared) (Q : Type 0) → (p ≡ Some x → (o ≡ Some x) ⊎ Q) → cond b (Some y) p ≡ Some x → (cond b (Some y) o ≡ Some x) ⊎ Q
last_step true y x o p Q f h = inl h
last_step false y x o p Q f h = f h

lookup_text : (t : Table) (e : Text × Declared) (name : Text) (x : Declared) → lookup (text_eq name) (t ++ e ∷ []) ≡ Some x → (lookup (text_eq name) t ≡ Some x) ⊎ ((e.1 ≡ x) × (text_eq name e.0 ≡ true))
lookup_text [] e name x h = inr (last_here (text_eq name e.0) e.1 x h)
lookup_text (a ∷ t) e name x h = last_step (text_eq name a.0) a.1 x (lookup (text_eq name) t) (lookup (text_eq name) (t ++ e ∷ [])) _ (lookup_text t e name x) h

-- what is declared is declared by an item of this name, behind others
abbrev pub Placed : List Item → Table → Text → Declared → Type 0
Placed items t name x = (u : Table) × (i : Item) × (rest : List Item) × (entries t items ≡ entries (u ++ entry u i ∷ []) rest) × Contains items i × ((entry u i).1 ≡ x) × (text_eq name (entry u i).0 ≡ true)

pub placed : (items : List Item) (t : Table) (name : Text) (x : Declared) → declared (entries t items) name ≡ Some x → (declared t name ≡ Some x) ⊎ Placed items t name x
placed [] t name x h = inl h
placed (i ∷ items) t name x h =
    elim (placed items (t ++ entry t i ∷ []) name x h) [
      | inl k ↦ elim (lookup_text t (entry t i) name x k) [ inl m ↦ inl m | inr e ↦ inr (t, i, items, refl, (0, omega arith, refl), e.0, e.1) ]
      | inr f ↦ inr (f.0, f.1, f.2, f.3, (suc f.4.0, omega (arith, f.4.1), f.4.2), f.5, f.6)
    ]

-- what a table declares is kept in a longer one
abbrev pub Kept : Table → Table → Type 0
Kept t u = (name : Text) (x : Declared) → declared t name ≡ Some x → declared u name ≡ Some x

option_kept : {A : Type 0} (f : Declared → Option A) (o p : Option Declared) (k : A) → ((x : Declared) → o ≡ Some x → p ≡ Some x) → option_and_then f o ≡ Some k → option_and_then f p ≡ Some k
option_kept f None p k g h = absurd cc
option_kept f (Some x) p k g h = rw (g x refl) h

then_kept : (o p : Option ℤ) (k : ℕ) → ((z : ℤ) → o ≡ Some z → p ≡ Some z) → option_and_then natural o ≡ Some k → option_and_then natural p ≡ Some k
then_kept None p k g h = absurd cc
then_kept (Some z) p k g h = rw (g z refl) h

size_kept : (t u : Table) (n : Size) (k : ℕ) → Kept t u → size_of t n ≡ Some k → size_of u n ≡ Some k
size_kept t u (size.Number n) k g h = h
size_kept t u (size.Name n) k g h = then_kept (option_and_then constant (declared t n.text)) (option_and_then constant (declared u n.text)) k (λ z e. option_kept constant (declared t n.text) (declared u n.text) z (g n.text) e) h

map_kept : (f : ℕ → Ty) (o p : Option ℕ) (ty : Ty) → ((k : ℕ) → o ≡ Some k → p ≡ Some k) → option_map f o ≡ Some ty → option_map f p ≡ Some ty
map_kept f None p ty g h = absurd cc
map_kept f (Some k) p ty g h = rw (g k refl) h

fix_kept : (o p q r : Option ℕ) (ty : Ty) → ((k : ℕ) → o ≡ Some k → p ≡ Some k) → ((k : ℕ) → q ≡ Some k → r ≡ Some k) → option_and_then (λ a. option_map (λ b. tys.Int (a + b)) q) o ≡ Some ty → option_and_then (λ a. option_map (λ b. tys.Int (a + b)) r) p ≡ Some ty
fix_kept None p q r ty g k h = absurd cc
fix_kept (Some a) p q r ty g k h = rw (g a refl) (map_kept (λ b. tys.Int (a + b)) q r ty k h)

pub type_kept : (t u : Table) (e : TypeExpr) (ty : Ty) → Kept t u → type_of t e ≡ Some ty → type_of u e ≡ Some ty
type_kept t u (type_expr.Bool at) ty g h = h
type_kept t u (type_expr.Card at p n q) ty g h = map_kept tys.Card (size_of t n) (size_of u n) ty (λ k. size_kept t u n k g) h
type_kept t u (type_expr.Int at p n q) ty g h = map_kept tys.Int (size_of t n) (size_of u n) ty (λ k. size_kept t u n k g) h
type_kept t u (type_expr.Fix at p n c m q) ty g h = fix_kept (size_of t n) (size_of u n) (size_of t m) (size_of u m) ty (λ k. size_kept t u n k g) (λ k. size_kept t u m k g) h
type_kept t u (type_expr.Float at p n c m q) ty g h = absurd cc
type_kept t u (type_expr.Name n) ty g h = option_kept type_named (declared t n.text) (declared u n.text) ty (g n.text) h

port_small : (ty : Ty) → is_port_type (Some ty) ≡ true → IsPort ty
port_small tys.Bool h = tt
port_small (tys.Card n) h = leb-true n 32 h
port_small (tys.Int n) h = leb-true n 32 h

port_is : (t u : Table) (e : TypeExpr) → Kept t u → is_port_type (type_of u e) ≡ true → IsPort (type_or_none t e)
port_is t u e g h = one (type_of t e) refl
  where
    one : (o : Option Ty) → type_of t e ≡ o → IsPort (unwrap_or o (tys.Card 0))
    one None is = omega arith
    one (Some ty) is = port_small ty (ap is_port_type (sym (type_kept t u e ty g is)) ∙ h)

-- a card, whatever size it has
abbrev IsCard : Ty → Type 0
IsCard ty = (n : ℕ) × (ty ≡ tys.Card n)

card_of : (ty : Ty) → is_pc_type (Some ty) ≡ true → IsCard ty
card_of tys.Bool h = absurd cc
card_of (tys.Card n) h = (n, refl)
card_of (tys.Int n) h = absurd cc

card_is : (t u : Table) (e : TypeExpr) → Kept t u → is_pc_type (type_of u e) ≡ true → IsCard (type_or_none t e)
card_is t u e g h = one (type_of t e) refl
  where
    one : (o : Option Ty) → type_of t e ≡ o → IsCard (unwrap_or o (tys.Card 0))
    one None is = (0, refl)
    one (Some ty) is = card_of ty (ap is_pc_type (sym (type_kept t u e ty g is)) ∙ h)

-- each `out` of a table is small
abbrev OutSmall : Declared → Type 0
OutSmall (Declared.Out ty) = IsPort ty
OutSmall _ = Unit {0}

abbrev OutsSmall : Table → Type 0
OutsSmall [] = Unit {0}
OutsSmall (e ∷ t) = OutSmall e.1 × OutsSmall t

outs_push : (t : Table) (e : Text × Declared) → OutsSmall t → OutSmall e.1 → OutsSmall (t ++ e ∷ [])
outs_push [] e h k = (k, tt)
outs_push (x ∷ t) e h k = (h.0, outs_push t e h.1 k)

out_small : (t : Table) → OutsSmall t → IsPort (out_type t)
out_small [] h = tt
out_small ((name, Declared.Constant z) ∷ t) h = out_small t h.1
out_small ((name, Declared.TypeName ty) ∷ t) h = out_small t h.1
out_small ((name, Declared.Storage n k ty) ∷ t) h = out_small t h.1
out_small ((name, Declared.Trn n ty) ∷ t) h = out_small t h.1
out_small ((name, Declared.Inp ty) ∷ t) h = out_small t h.1
out_small ((name, Declared.Out ty) ∷ t) h = h.0
out_small ((name, Declared.Or mode names) ∷ t) h = out_small t h.1
out_small ((name, Declared.And rule) ∷ t) h = out_small t h.1

port_entry : (t u : Table) (w : PortWord) (e : TypeExpr) → Kept t u → port_places u w e ≡ [] → OutSmall (port_of t w (type_or_none t e))
port_entry t u (port.Trn at) e g h = tt
port_entry t u (port.Inp at) e g h = tt
port_entry t u (port.Out at) e g h = port_is t u e g (unless_none (is_port_type (type_of u e)) _ h)

item_out : (t u : Table) (i : Item) → Kept t u → item_places u i ≡ [] → OutSmall (entry t i).1
item_out t u (item.Let at n equals minus z) g h = tt
item_out t u (item.Type at n equals e) g h = tt
item_out t u (item.Storage s) g h = tt
item_out t u (item.Port p) g h = port_entry t u p.word p.ty g (no_right (type_places u p.ty) _ h)
item_out t u (item.OrRule r) g h = tt
item_out t u (item.OpRule r) g h = tt
item_out t u (item.ModeRule r) g h = tt

outs_from : (whole : Table) (items : List Item) (t : Table) → entries t items ≡ whole → flat_map (item_places whole) items ≡ [] → OutsSmall t → OutsSmall (entries t items)
outs_from whole [] t is h o = o
outs_from whole (i ∷ items) t is h o =
    outs_from whole items (t ++ entry t i ∷ []) is (no_right (item_places whole i) _ h)
    (outs_push t (entry t i) o (item_out t whole i (λ name x k. subst (λ u. declared u name ≡ Some x) is (kept (i ∷ items) t name x k)) (no_left (item_places whole i) _ h)))

pub out_is_small : (d : Desc) → IsFreeBelow 8 d → IsPort (out_type (table d))
out_is_small d free =
    let places : type_fault_places d ≡ [] = none_from (type_fault_places d) (λ at c. free 6 (omega arith) (By_type at c)) in
    out_small (table d) (outs_from (table d) d.items [] refl places tt)

-- PC
named_item : (whole : Table) (all earlier items : List Item) (i : Item) → Contains items i → name_places_from whole all earlier items ≡ [] → (before : List Item) × (item_name_places whole all before i ≡ [])
named_item whole all earlier [] i c h = absurd (omega (arith, c.1))
named_item whole all earlier (x ∷ items) i (zero, low, is) h = (earlier, subst (λ y. item_name_places whole all earlier y ≡ []) is (no_left _ _ h))
named_item whole all earlier (x ∷ items) i (suc k, low, is) h = named_item whole all (earlier ++ x ∷ []) items i (k, omega (arith, low), is) (no_right (item_name_places whole all earlier x) _ h)

left_true : (a b : Bool) → (a && b) ≡ false → a ≡ true → b ≡ false
left_true true b h k = h
left_true false b h k = absurd cc

not_false : (b : Bool) → not b ≡ false → b ≡ true
not_false true h = refl
not_false false h = absurd cc

right_of : (a b : Bool) → (a && b) ≡ true → b ≡ true
right_of true b h = h
right_of false b h = absurd cc

pc_item : (d : Desc) (u : Table) (rest : List Item) (i : Item) → entries [] d.items ≡ entries (u ++ entry u i ∷ []) rest → is_register i ≡ true → text_eq (declares i).text (codes "PC") ≡ true → item_places (table d) i ≡ [] → (n : ℕ) × (k : ℕ) × (m : ℕ) × ((entry u i).1 ≡ Declared.Storage n k (tys.Card m))
pc_item d u rest (item.Let at n equals minus z) e r t h = absurd cc
pc_item d u rest (item.Type at n equals x) e r t h = absurd cc
pc_item d u rest (item.Storage s) e r t h =
    let places : pc_places (table d) s ≡ [] = no_right _ _ h in
    let ok = not_false _ (left_true (text_eq s.name.text (codes "PC")) (not (is_within 1 1 (size_number (table d) s.size) && is_pc_type (type_of (table d) s.ty))) (when_none _ s.name.at places) t) in
    let card = card_is u (table d) s.ty (λ name x k. subst (λ w. declared w name ≡ Some x) (sym e) (kept (item.Storage s ∷ rest) u name x k)) (right_of (is_within 1 1 (size_number (table d) s.size)) (is_pc_type (type_of (table d) s.ty)) ok) in
    (length (filter is_storage u), size_or_none u s.size, card.0, ap (Declared.Storage (length (filter is_storage u)) (size_or_none u s.size)) card.1)
pc_item d u rest (item.Port p) e r t h = absurd cc
pc_item d u rest (item.OrRule p) e r t h = absurd cc
pc_item d u rest (item.OpRule p) e r t h = absurd cc
pc_item d u rest (item.ModeRule p) e r t h = absurd cc

same_back : (p q : Text) → text_eq p q ≡ true → text_eq q p ≡ true
same_back p q h = (bytes_decides q p).1 (sym ((bytes_decides p q).0 h))

pub pc_declared : (d : Desc) → IsTyped d → (n : ℕ) × (k : ℕ) × (m : ℕ) × (declared (table d) (codes "PC") ≡ Some (Declared.Storage n k (tys.Card m)))
pc_declared d typed = one (declared (table d) (codes "PC")) refl
  where
    found : (x : Declared) → declared (table d) (codes "PC") ≡ Some x → Placed d.items [] (codes "PC") x → (n : ℕ) × (k : ℕ) × (m : ℕ) × (x ≡ Declared.Storage n k (tys.Card m))
    found x is f =
        let names : name_places d ≡ [] = none_from (name_places d) (λ at c. typed 4 (omega arith) (By_name at c)) in
        let types : type_fault_places d ≡ [] = none_from (type_fault_places d) (λ at c. typed 6 (omega arith) (By_type at c)) in
        let here = named_item (table d) d.items [] d.items f.1 f.4 names in
        let first = no_left (unknown_places (table d) here.0 f.1 ++ declared_places here.0 f.1 ++ parameter_places [] (parameters f.1)) (flat_map (shared_places d.items) (parameters f.1)) here.1 in
        let second = no_left (unknown_places (table d) here.0 f.1 ++ declared_places here.0 f.1) (parameter_places [] (parameters f.1)) first in
        let declares_it : declared_places here.0 f.1 ≡ [] = no_right (unknown_places (table d) here.0 f.1) (declared_places here.0 f.1) second in
        let named : text_eq (declares f.1).text (codes "PC") ≡ true = same_back (codes "PC") (declares f.1).text (subst (λ q. text_eq (codes "PC") q ≡ true) (entry_name f.0 f.1) f.6) in
        let n = declares f.1 in
        let above : List ℕ = when (is_among n.text (map declares here.0)) n.at ++ when (list_any (are_same_port f.1) here.0) n.at in
        let behind : List ℕ = when (text_eq n.text (codes "instruction") && not (is_rule f.1)) n.at in
        let pc_place : when (text_eq n.text (codes "PC") && not (is_register f.1)) n.at ≡ [] = no_right above (when (text_eq n.text (codes "PC") && not (is_register f.1)) n.at) (no_left (above ++ when (text_eq n.text (codes "PC") && not (is_register f.1)) n.at) behind declares_it) in
        let register = not_false (is_register f.1) (left_true (text_eq (declares f.1).text (codes "PC")) (not (is_register f.1)) (when_none (text_eq n.text (codes "PC") && not (is_register f.1)) n.at pc_place) named) in
        let p = pc_item d f.0 f.2 f.1 f.3 register named (flat_none (item_places (table d)) d.items f.1 f.4 types) in
        (p.0, p.1, p.2, sym f.5 ∙ p.3)

    one : (o : Option Declared) → declared (table d) (codes "PC") ≡ o → (n : ℕ) × (k : ℕ) × (m : ℕ) × (declared (table d) (codes "PC") ≡ Some (Declared.Storage n k (tys.Card m)))
    one None is = absurd (typed 11 (omega arith) (By_root root.Pc is))
    one (Some x) is =
        elim (placed d.items [] (codes "PC") x is) [
          | inl old ↦ absurd cc
          | inr f ↦ (let p = found x is f in (p.0, p.1, p.2, is ∙ ap Some p.3))
        ]

pub has_pc : (d : Desc) → IsTyped d → IsLawful (table d) → ((name : Text) (n k : ℕ) (u : Ty) → declared (table d) name ≡ Some (Declared.Storage n k u) → is_type u ≡ true) → (s : Shown) → s.types ≡ map (λ x. x.1) (storages (table d)) → HasPc (table d) s
has_pc d typed lawful right s types_are =
    let p = pc_declared d typed in
    let width = width_is p.2 (right (codes "PC") p.0 p.1 (tys.Card p.2) p.3) in
    let number : pc (table d) ≡ p.0 = ap storage_number p.3 in
    let at : slice_get (map (λ x. x.1) (storages (table d))) (pc (table d)) ≡ Some (tys.Card p.2) = ap (slice_get (map (λ x. x.1) (storages (table d)))) number ∙ lawful.storage_types (codes "PC") p.0 p.1 (tys.Card p.2) p.3 in
    record { bits = p.2; some = width.0; few = width.1; type_is = ap (λ ts. slice_get ts (pc (table d))) types_are ∙ at; storage_is = ap (λ o. unwrap_or o tys.Bool) at }
