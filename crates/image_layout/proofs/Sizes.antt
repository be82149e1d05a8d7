-- In a description in which all is right storages have sizes and types within their limits, and PC has at most 16 bits.
use Rattle.std.proofs.Common.{ℕ, zero, suc, ◌≤◌, ◌<◌, ℤ, pos, negsuc, List, [], ◌∷◌, ◌++◌, ◌≡◌, take, get_or, length, arith, refl, sym, ◌∙◌, ap, subst, Bool, true, false, cond, Option, Some, None, ◌⊎◌, inl, inr}
use Rattle.std.specs.Prelude.{◌&&◌, not, codes, flat_map, option_and_then, unwrap_or, int_le, nat_le}
use Rattle.std.specs.List.{AllByRecursion}
use Rattle.std.specs.Cmp.Lexicographic.{bytes_decides}
use Rattle.std.proofs.lemmas.Bool.{leb-true, and_parts}
use Rattle.std.proofs.lemmas.Int.{ints}
use Rattle.nk_base.specs.Text.{text_eq}
use Rattle.nk_base.specs.Number.{width_of}
use Rattle.nk_base.specs.declared.number.Ty.{Ty}
use Rattle.nk_base.specs.declared.number.Ty.TheVariants as tys
use Rattle.nml_tree.specs.declared.tree.Desc.{Desc}
use Rattle.nml_tree.specs.declared.tree.Item.{Item}
use Rattle.nml_tree.specs.declared.tree.Item.TheVariants as item
use Rattle.nml_tree.specs.declared.tree.PortWord.{PortWord}
use Rattle.nml_tree.specs.declared.tree.PortWord.TheVariants as port
use Rattle.nml_tree.specs.declared.tree.Size.{Size}
use Rattle.nml_tree.specs.declared.tree.Size.TheVariants as size
use Rattle.nml_tree.specs.declared.tree.Storage.{Storage}
use Rattle.nml_tree.specs.declared.tree.TypeExpr.{TypeExpr}
use Rattle.nml_tree.specs.Table.{Text, Table, Declared, declared, table, entry, entries, constant, natural, size_number, size_of, size_or_none, type_of, type_or_none, port_of}
use Rattle.nml_tree.specs.Worth.{is_type}
use Rattle.nml_tree.specs.TypeFault.{is_within, is_pc_type, size_place, size_places, type_places, pc_places, item_places, type_fault_places}
use Rattle.nml_tree.specs.Exec.{storages}
use Rattle.nml_tree.specs.Refused.{IsTyped, By_type}
use Rattle.nml_state.specs.RightTypes.{ItemRight, EachRight}
use Rattle.nml_state.proofs.Lookups.{kept, each_right}
use Rattle.nml_widths.proofs.Fits.{no_left, no_right, unless_none, when_none}
use Rattle.attr_exec.proofs.Ports.{Kept, type_kept, none_from}
use Rattle.image_file.specs.Valid.{IsSmall}
use Rattle.image_layout.specs.Stored.{IsRight}

-- PC has at most 16 bits
abbrev IsPcRight : Text × Declared → Type 0
IsPcRight (name, Declared.Storage n k ty) = text_eq name (codes "PC") ≡ true → width_of ty ≤ 16
IsPcRight _ = Unit {0}

abbrev AllRight : Table → Type 0
AllRight [] = Unit {0}
AllRight (e ∷ t) = IsRight e.1 × IsPcRight e × AllRight t

-- the same of items behind those of the table
abbrev RightFrom : Table → List Item → Type 0
RightFrom t [] = Unit {0}
RightFrom t (i ∷ items) = IsRight (entry t i).1 × IsPcRight (entry t i) × RightFrom (t ++ entry t i ∷ []) items

number_kept : (o p : Option Declared) (k : ℕ) → ((x : Declared) → o ≡ Some x → p ≡ Some x) → option_and_then natural (option_and_then constant o) ≡ Some k → option_and_then natural (option_and_then constant p) ≡ Some k
number_kept None p k g h = absurd cc
number_kept (Some x) p k g h = rw (g x refl) h

size_kept : (t u : Table) (n : Size) (k : ℕ) → Kept t u → size_of t n ≡ Some k → size_of u n ≡ Some k
size_kept t u (size.Number n) k g h = h
size_kept t u (size.Name n) k g h = number_kept (declared t n.text) (declared u n.text) k (g n.text) h

within_most : (o : Option ℤ) (k : ℕ) → is_within 1 65536 o ≡ true → option_and_then natural o ≡ Some k → k ≤ 65536
within_most None k h is = absurd cc
within_most (Some (pos n)) k h is = let same : n ≡ k = cc in omega (arith, ints, same, (and_parts (int_le (pos 1) (pos n)) (int_le (pos n) (pos 65536)) h).1)
within_most (Some (negsuc n)) k h is = absurd cc

size_small : (t u : Table) (n : Size) → Kept t u → is_within 1 65536 (size_number u n) ≡ true → size_or_none t n ≤ 65536
size_small t u n g h = one (size_of t n) refl
  where
    one : (o : Option ℕ) → size_of t n ≡ o → unwrap_or o 0 ≤ 65536
    one None is = omega arith
    one (Some k) is = within_most (size_number u n) k h (size_kept t u n k g is)

pc_few : (ty : Ty) → is_pc_type (Some ty) ≡ true → width_of ty ≤ 16
pc_few tys.Bool h = absurd cc
pc_few (tys.Card n) h = leb-true n 16 (and_parts (nat_le 1 n) (nat_le n 16) h).1
pc_few (tys.Int n) h = absurd cc

pc_type : (t u : Table) (e : TypeExpr) → Kept t u → is_pc_type (type_of u e) ≡ true → width_of (type_or_none t e) ≤ 16
pc_type t u e g h = one (type_of t e) refl
  where
    one : (o : Option Ty) → type_of t e ≡ o → width_of (unwrap_or o (tys.Card 0)) ≤ 16
    one None is = omega arith
    one (Some ty) is = pc_few ty (ap is_pc_type (sym (type_kept t u e ty g is)) ∙ h)

pc_named : (b c : Bool) → (b && not c) ≡ false → b ≡ true → c ≡ true
pc_named true true h k = refl
pc_named true false h k = absurd cc
pc_named false c h k = absurd cc

pc_right : (t u : Table) (s : Storage) → Kept t u → pc_places u s ≡ [] → text_eq s.name.text (codes "PC") ≡ true → width_of (type_or_none t s.ty) ≤ 16
pc_right t u s g h is =
    let w : Bool = is_within 1 1 (size_number u s.size) in
    let p : Bool = is_pc_type (type_of u s.ty) in
    pc_type t u s.ty g (and_parts w p (pc_named (text_eq s.name.text (codes "PC")) (w && p) (when_none (text_eq s.name.text (codes "PC") && not (w && p)) s.name.at h) is)).1

port_right : (t : Table) (name : Text) (w : PortWord) (ty : Ty) → IsRight (port_of t w ty) × IsPcRight (name, port_of t w ty)
port_right t name (port.Trn at) ty = (tt, tt)
port_right t name (port.Inp at) ty = (tt, tt)
port_right t name (port.Out at) ty = (tt, tt)

item_is : (t u : Table) (i : Item) → Kept t u → ItemRight t i → item_places u i ≡ [] → IsRight (entry t i).1 × IsPcRight (entry t i)
item_is t u (item.Let at n equals minus z) g right h = (tt, tt)
item_is t u (item.Type at n equals e) g right h = (tt, tt)
item_is t u (item.Storage s) g right h =
    let front : size_places u 1 s.size ++ type_places u s.ty ≡ [] = no_left _ (pc_places u s) h in
    ((size_small t u s.size g (unless_none _ (size_place s.size) (no_left (size_places u 1 s.size) _ front)), right), pc_right t u s g (no_right (size_places u 1 s.size ++ type_places u s.ty) _ h))
item_is t u (item.Port p) g right h = port_right t p.name.text p.word (type_or_none t p.ty)
item_is t u (item.OrRule r) g right h = (tt, tt)
item_is t u (item.OpRule r) g right h = (tt, tt)
item_is t u (item.ModeRule r) g right h = (tt, tt)

right_from : (whole : Table) (items : List Item) (t : Table) → entries t items ≡ whole → EachRight t items → flat_map (item_places whole) items ≡ [] → RightFrom t items
right_from whole [] t is right h = tt
right_from whole (i ∷ items) t is right h =
    let here = item_is t whole i (λ name x k. subst (λ u. declared u name ≡ Some x) is (kept (i ∷ items) t name x k)) right.0 (no_left (item_places whole i) _ h) in
    (here.0, here.1, right_from whole items (t ++ entry t i ∷ []) is right.1 (no_right (item_places whole i) _ h))

items_right : (d : Desc) → IsTyped d → RightFrom [] d.items
items_right d typed =
    let places : type_fault_places d ≡ [] = none_from (type_fault_places d) (λ at c. typed 6 (omega arith) (By_type at c)) in
    right_from (table d) d.items [] refl (each_right d (λ k low. typed k (omega (arith, low)))) places

right_at : (items : List Item) (t : Table) (k : ℕ) (x : Item) → RightFrom t items → k < length items → IsRight (entry (entries t (take k items)) (get_or items k x)).1
right_at [] t k x h low = absurd (omega (arith, low))
right_at (i ∷ items) t zero x h low = h.0
right_at (i ∷ items) t (suc k) x h low = right_at items (t ++ entry t i ∷ []) k x h.2 (omega (arith, low))

-- the storage that an item declares is right
pub right_here : (d : Desc) → IsTyped d → (k : ℕ) (x : Item) → k < length d.items → IsRight (entry (entries [] (take k d.items)) (get_or d.items k x)).1
right_here d typed k x low = right_at d.items [] k x (items_right d typed) low

right_push : (t : Table) (e : Text × Declared) → AllRight t → IsRight e.1 → IsPcRight e → AllRight (t ++ e ∷ [])
right_push [] e h k p = (k, p, tt)
right_push (x ∷ t) e h k p = (h.0, h.1, right_push t e h.2 k p)

all_from : (items : List Item) (t : Table) → RightFrom t items → AllRight t → AllRight (entries t items)
all_from [] t h a = a
all_from (i ∷ items) t h a = all_from items (t ++ entry t i ∷ []) h.2 (right_push t (entry t i) a h.0 h.1)

all_right : (d : Desc) → IsTyped d → AllRight (table d)
all_right d typed = all_from d.items [] (items_right d typed) tt

type_small : (ty : Ty) → is_type ty ≡ true → width_of ty ≤ 64
type_small tys.Bool h = omega arith
type_small (tys.Card n) h = leb-true n 64 (and_parts (nat_le 1 n) (nat_le n 64) h).1
type_small (tys.Int n) h = leb-true n 64 (and_parts (nat_le 1 n) (nat_le n 64) h).1

small_of : (t : Table) → AllRight t → AllByRecursion IsSmall (storages t)
small_of [] h = tt
small_of ((name, Declared.Constant z) ∷ t) h = small_of t h.2
small_of ((name, Declared.TypeName ty) ∷ t) h = small_of t h.2
small_of ((name, Declared.Storage n k ty) ∷ t) h = ((h.0.0, type_small ty h.0.1), small_of t h.2)
small_of ((name, Declared.Trn n ty) ∷ t) h = small_of t h.2
small_of ((name, Declared.Inp ty) ∷ t) h = small_of t h.2
small_of ((name, Declared.Out ty) ∷ t) h = small_of t h.2
small_of ((name, Declared.Or mode names) ∷ t) h = small_of t h.2
small_of ((name, Declared.And rule) ∷ t) h = small_of t h.2

pub small : (d : Desc) → IsTyped d → AllByRecursion IsSmall (storages (table d))
small d typed = small_of (table d) (all_right d typed)

past : (b : Bool) (y x : Declared) (o : Option Declared) → cond b (Some y) o ≡ Some x → ((y ≡ x) × (b ≡ true)) ⊎ (o ≡ Some x)
past true y x o h = let e : y ≡ x = cc in inl (e, refl)
past false y x o h = inr h

pc_of : (t : Table) (n k : ℕ) (ty : Ty) → AllRight t → declared t (codes "PC") ≡ Some (Declared.Storage n k ty) → width_of ty ≤ 16
pc_of [] n k ty h is = absurd cc
pc_of (e ∷ t) n k ty h is =
    elim (past (text_eq (codes "PC") e.0) e.1 (Declared.Storage n k ty) (declared t (codes "PC")) is) [
      | inl here ↦ subst (λ x. IsPcRight (e.0, x)) here.0 h.1 (same_back e.0 here.1)
      | inr later ↦ pc_of t n k ty h.2 later
    ]
  where
    same_back : (q : Text) → text_eq (codes "PC") q ≡ true → text_eq q (codes "PC") ≡ true
    same_back q h = (bytes_decides q (codes "PC")).1 (sym ((bytes_decides (codes "PC") q).0 h))

pub pc_small : (d : Desc) → IsTyped d → (n k : ℕ) (ty : Ty) → declared (table d) (codes "PC") ≡ Some (Declared.Storage n k ty) → width_of ty ≤ 16
pc_small d typed n k ty is = pc_of (table d) n k ty (all_right d typed) is
