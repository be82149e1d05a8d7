-- In a description in which names and types are right PC is one cell of a card of 1 to 16 bits.
use Rattle.std.proofs.Common.{ℕ, zero, suc, ◌+◌, ◌≤◌, List, [], ◌∷◌, ◌++◌, ◌≡◌, ℤ, pos, negsuc, map, length, arith, refl, sym, ◌∙◌, ap, subst, Some, None, Option, Bool, true, false, Contains, ◌⊎◌, inl, inr}
use Rattle.std.specs.Prelude.{filter, ◌&&◌, not, replicate, option_and_then, unwrap_or, slice_get, codes}
use Rattle.std.specs.List.{list_any}
use Rattle.std.specs.Cmp.Lexicographic.{bytes_decides}
use Rattle.std.proofs.lemmas.Bool.{leb-true}
use Rattle.nk_base.specs.Text.{text_eq}
use Rattle.nk_base.specs.declared.number.Ty.{Ty}
use Rattle.nk_base.specs.declared.number.Ty.TheVariants as tys
use Rattle.nml_tree.specs.declared.tree.Item.{Item}
use Rattle.nml_tree.specs.declared.tree.Item.TheVariants as item
use Rattle.nml_tree.specs.declared.tree.Desc.{Desc}
use Rattle.nml_tree.specs.declared.tree.Storage.{Storage}
use Rattle.nml_tree.specs.declared.tree.Size.{Size}
use Rattle.nml_tree.specs.declared.tree.Size.TheVariants as size
use Rattle.nml_tree.specs.declared.tree.TypeExpr.{TypeExpr}
use Rattle.nml_tree.specs.declared.fault.Root.TheVariants as root
use Rattle.nml_tree.specs.Table.{Text, Table, Declared, declared, table, entries, entry, constant, natural, size_number, size_or_none, is_storage, type_of, type_or_none}
use Rattle.nml_tree.specs.Uses.{declares, parameters}
use Rattle.nml_tree.specs.Places.{when}
use Rattle.nml_tree.specs.NameFault.{is_among, is_register, is_rule, are_same_port, unknown_places, declared_places, parameter_places, shared_places, item_name_places, name_places_from, name_places}
use Rattle.nml_tree.specs.TypeFault.{is_pc_type, is_within, pc_places, item_places, type_fault_places}
use Rattle.nml_tree.specs.Exec.{pc, storage_number, storages}
use Rattle.nml_tree.specs.Worth.{is_type}
use Rattle.nk_base.specs.Number.{width_of}
use Rattle.nml_tree.specs.Refused.{IsTyped, IsFreeBelow, By_name, By_type, By_root}
use Rattle.nml_state.specs.Cells.{opened}
use Rattle.std.proofs.lemmas.List.{length-replicate}
use Rattle.attr_exec.specs.Does.{IsStateOf}
use Rattle.nml_state.proofs.Lookups.{kept, entry_name}
use Rattle.nml_widths.proofs.Fits.{no_left, no_right, when_none}
use Rattle.nml_widths.proofs.WidthLaws.{is_sound}
use Rattle.attr_eval.proofs.Values.{width_is}
use Rattle.attr_exec.proofs.Lawful.{all_numbered}
use Rattle.attr_exec.proofs.Ports.{Kept, Placed, placed, flat_none, none_from, type_kept}
use Rattle.attr_exec.proofs.Sizes.{sized}
use Rattle.isg_build.specs.Widths.{ArePcBits}

sizes_rows : (rows : List (ℕ × Ty)) → map (λ (row : List ℤ). length row) (map (λ (x : ℕ × Ty). replicate x.0 (pos 0)) rows) ≡ map (λ (x : ℕ × Ty). x.0) rows
sizes_rows [] = refl
sizes_rows ((n, ty) ∷ rows) = rw (length-replicate n (pos 0), sizes_rows rows) refl

opened_state : (t : Table) → IsStateOf t (opened t)
opened_state t = record { types_are = refl; trn_types_are = refl; sizes_are = sizes_rows (storages t); trns_are = refl; kept_are = refl }

named_item : (whole : Table) (all earlier items : List Item) (i : Item) → Contains items i → name_places_from whole all earlier items ≡ [] → (before : List Item) × (item_name_places whole all before i ≡ [])
named_item whole all earlier [] i c h = absurd (omega (arith, c.1))
named_item whole all earlier (x ∷ items) i (zero, low, is) h = (earlier, subst (λ y. item_name_places whole all earlier y ≡ []) is (no_left _ _ h))
named_item whole all earlier (x ∷ items) i (suc k, low, is) h = named_item whole all (earlier ++ x ∷ []) items i (k, omega (arith, low), is) (no_right (item_name_places whole all earlier x) _ h)

left_true : (a b : Bool) → (a && b) ≡ false → a ≡ true → b ≡ false
left_true true b h k = h
left_true false b h k = absurd cc

not_false : (b : Bool) → not b ≡ false → b ≡ true
not_false true h = refl
not_false false h = absurd cc

both_true : (a b : Bool) → (a && b) ≡ true → (a ≡ true) × (b ≡ true)
both_true true b h = (refl, h)
both_true false b h = absurd cc

same_back : (p q : Text) → text_eq p q ≡ true → text_eq q p ≡ true
same_back p q h = (bytes_decides q p).1 (sym ((bytes_decides p q).0 h))

-- a card of few bits
abbrev IsSmall : Ty → Type 0
IsSmall ty = (n : ℕ) × (ty ≡ tys.Card n) × (n ≤ 16)

small_of : (ty : Ty) → is_pc_type (Some ty) ≡ true → IsSmall ty
small_of tys.Bool h = absurd cc
small_of (tys.Card n) h = (n, refl, leb-true n 16 (both_true _ _ h).1)
small_of (tys.Int n) h = absurd cc

small_is : (t u : Table) (e : TypeExpr) → Kept t u → is_pc_type (type_of u e) ≡ true → IsSmall (type_or_none t e)
small_is t u e g h = one (type_of t e) refl
  where
    one : (o : Option Ty) → type_of t e ≡ o → IsSmall (unwrap_or o (tys.Card 0))
    one None is = (0, refl, omega arith)
    one (Some ty) is = small_of ty (ap is_pc_type (sym (type_kept t u e ty g is)) ∙ h)

at_most_one : (o : Option ℤ) → is_within 1 1 o ≡ true → unwrap_or (option_and_then natural o) 0 ≤ 1
at_most_one None h = absurd cc
at_most_one (Some (pos n)) h = leb-true n 1 (both_true _ _ h).1
at_most_one (Some (negsuc n)) h = omega arith

one_is : (t u : Table) (n : Size) → Kept t u → is_within 1 1 (size_number u n) ≡ true → size_or_none t n ≤ 1
one_is t u (size.Number n) g h = at_most_one (Some (pos n.value)) h
one_is t u (size.Name n) g h = by (declared t n.text) refl
  where
    by : (o : Option Declared) → declared t n.text ≡ o → unwrap_or (option_and_then natural (option_and_then constant o)) 0 ≤ 1
    by None is = omega arith
    by (Some x) is = at_most_one (constant x) (ap (λ p. is_within 1 1 (option_and_then constant p)) (sym (g n.text x is)) ∙ h)

-- what PC is declared as
record IsPc (x : Declared) : Type 0 where
  n : ℕ
  k : ℕ
  m : ℕ
  is : x ≡ Declared.Storage n k (tys.Card m)
  one : k ≤ 1
  few : m ≤ 16

pc_item : (d : Desc) (u : Table) (rest : List Item) (i : Item) → entries [] d.items ≡ entries (u ++ entry u i ∷ []) rest → is_register i ≡ true → text_eq (declares i).text (codes "PC") ≡ true → item_places (table d) i ≡ [] → IsPc (entry u i).1
pc_item d u rest (item.Let at n equals minus z) e r t h = absurd cc
pc_item d u rest (item.Type at n equals x) e r t h = absurd cc
pc_item d u rest (item.Storage s) e r t h =
    let places : pc_places (table d) s ≡ [] = no_right _ _ h in
    let ok = both_true (is_within 1 1 (size_number (table d) s.size)) (is_pc_type (type_of (table d) s.ty)) (not_false _ (left_true (text_eq s.name.text (codes "PC")) (not (is_within 1 1 (size_number (table d) s.size) && is_pc_type (type_of (table d) s.ty))) (when_none _ s.name.at places) t)) in
    let same : Kept u (table d) = λ name x k. subst (λ w. declared w name ≡ Some x) (sym e) (kept (item.Storage s ∷ rest) u name x k) in
    let small = small_is u (table d) s.ty same ok.1 in
    record {
      n = length (filter is_storage u);
      k = size_or_none u s.size;
      m = small.0;
      is = ap (Declared.Storage (length (filter is_storage u)) (size_or_none u s.size)) small.1;
      one = one_is u (table d) s.size same ok.0;
      few = small.2;
    }
pc_item d u rest (item.Port p) e r t h = absurd cc
pc_item d u rest (item.OrRule p) e r t h = absurd cc
pc_item d u rest (item.OpRule p) e r t h = absurd cc
pc_item d u rest (item.ModeRule p) e r t h = absurd cc

pc_found : (d : Desc) → IsTyped d → (x : Declared) → Placed d.items [] (codes "PC") x → IsPc x
pc_found d typed x f =
    let names : name_places d ≡ [] = none_from (name_places d) (λ at c. typed 4 (omega arith) (By_name at c)) in
    let types : type_fault_places d ≡ [] = none_from (type_fault_places d) (λ at c. typed 6 (omega arith) (By_type at c)) in
    let here = named_item (table d) d.items [] d.items f.1 f.4 names in
    let first = no_left (unknown_places (table d) here.0 f.1 ++ declared_places here.0 f.1 ++ parameter_places [] (parameters f.1)) _ here.1 in
    let second = no_left (unknown_places (table d) here.0 f.1 ++ declared_places here.0 f.1) (parameter_places [] (parameters f.1)) first in
    let declares_it : declared_places here.0 f.1 ≡ [] = no_right (unknown_places (table d) here.0 f.1) (declared_places here.0 f.1) second in
    let named : text_eq (declares f.1).text (codes "PC") ≡ true = same_back (codes "PC") (declares f.1).text (subst (λ q. text_eq (codes "PC") q ≡ true) (entry_name f.0 f.1) f.6) in
    let n = declares f.1 in
    let above : List ℕ = when (is_among n.text (map declares here.0)) n.at ++ when (list_any (are_same_port f.1) here.0) n.at in
    let behind : List ℕ = when (text_eq n.text (codes "instruction") && not (is_rule f.1)) n.at in
    let pc_place : when (text_eq n.text (codes "PC") && not (is_register f.1)) n.at ≡ [] = no_right above (when (text_eq n.text (codes "PC") && not (is_register f.1)) n.at) (no_left (above ++ when (text_eq n.text (codes "PC") && not (is_register f.1)) n.at) behind declares_it) in
    let register = not_false (is_register f.1) (left_true (text_eq (declares f.1).text (codes "PC")) (not (is_register f.1)) (when_none (text_eq n.text (codes "PC") && not (is_register f.1)) n.at pc_place) named) in
    subst IsPc f.5 (pc_item d f.0 f.2 f.1 f.3 register named (flat_none (item_places (table d)) d.items f.1 f.4 types))

-- the type that PC is declared with tells its bits
pub pc_is : (d : Desc) → IsTyped d → (x : Declared) → declared (table d) (codes "PC") ≡ Some x → (n k m : ℕ) → x ≡ Declared.Storage n k (tys.Card m) → ArePcBits d m
pc_is d typed x is n k m e =
    let free : IsFreeBelow 8 d = λ j less. typed j (omega (arith, less)) in
    let p : IsPc x = elim (placed d.items [] (codes "PC") x is) [ inl old ↦ absurd cc | inr f ↦ pc_found d typed x f ] in
    let at : declared (table d) (codes "PC") ≡ Some (Declared.Storage n k (tys.Card m)) = is ∙ ap Some e in
    let one_more = (sized d free (opened (table d)) (opened_state (table d)) (codes "PC") n k (tys.Card m) at).0 in
    let width = width_is m ((is_sound d free).names (codes "PC") (Declared.Storage n k (tys.Card m)) at) in
    let same : k ≡ p.k = cc in
    let bits : m ≡ p.m = cc in
    let k_is : k ≡ 1 = omega (arith, one_more, same, p.one) in
    let number : pc (table d) ≡ n = ap storage_number at in
    record {
      are = ap (slice_get (storages (table d))) number ∙ (all_numbered d).0 (codes "PC") n k (tys.Card m) at ∙ ap (λ j. Some (j, tys.Card m)) k_is;
      least = width.0;
      most = omega (arith, bits, p.few);
    }

-- PC is declared
pub pc_declared : (d : Desc) → IsTyped d → (x : Declared) × (declared (table d) (codes "PC") ≡ Some x) × ((n : ℕ) × (k : ℕ) × (m : ℕ) × (x ≡ Declared.Storage n k (tys.Card m)))
pc_declared d typed = one (declared (table d) (codes "PC")) refl
  where
    one : (o : Option Declared) → declared (table d) (codes "PC") ≡ o → (x : Declared) × (declared (table d) (codes "PC") ≡ Some x) × ((n : ℕ) × (k : ℕ) × (m : ℕ) × (x ≡ Declared.Storage n k (tys.Card m)))
    one None is = absurd (typed 11 (omega arith) (By_root root.Pc is))
    one (Some x) is =
        elim (placed d.items [] (codes "PC") x is) [
          | inl old ↦ absurd cc
          | inr f ↦ (let p = pc_found d typed x f in (x, is, (p.n, p.k, p.m, p.is)))
        ]

-- a storage
abbrev pub IsStorage : Declared → Type 0
IsStorage (Declared.Storage n k ty) = Unit {0}
IsStorage _ = ⊥

pub pc_storage : (d : Desc) → IsTyped d → (x : Declared) → declared (table d) (codes "PC") ≡ Some x → IsStorage x
pc_storage d typed x is =
    let p = pc_declared d typed in
    let e : x ≡ Declared.Storage p.2.0 p.2.1 (tys.Card p.2.2) = cc in
    subst IsStorage (sym e) tt

pub pc_there : (d : Desc) → IsTyped d → declared (table d) (codes "PC") ≡ None → ⊥
pc_there d typed none = let p = pc_declared d typed in absurd cc

-- the type that stands where PC is declared
pub pc_width : (d : Desc) → IsTyped d → (before : List Item) (s : Storage) → declared (table d) (codes "PC") ≡ Some (entry (entries [] before) (item.Storage s)).1
    → (u : Ty) → (is_type (type_or_none (entries [] before) s.ty) ≡ true → u ≡ type_or_none (entries [] before) s.ty) → ArePcBits d (width_of u)
pc_width d typed before s is u h =
    let p = pc_declared d typed in
    let e : Declared.Storage (length (filter is_storage (entries [] before))) (size_or_none (entries [] before) s.size) (type_or_none (entries [] before) s.ty) ≡ Declared.Storage p.2.0 p.2.1 (tys.Card p.2.2) = cc in
    let ty : type_or_none (entries [] before) s.ty ≡ tys.Card p.2.2 = cc in
    let free : IsFreeBelow 8 d = λ j less. typed j (omega (arith, less)) in
    let right : is_type (tys.Card p.2.2) ≡ true = (is_sound d free).names (codes "PC") (Declared.Storage p.2.0 p.2.1 (tys.Card p.2.2)) (p.1 ∙ ap Some p.2.3) in
    let same : u ≡ tys.Card p.2.2 = h (ap is_type ty ∙ right) ∙ ty in
    subst (λ v. ArePcBits d (width_of v)) (sym same) (pc_is d typed p.0 p.1 p.2.0 p.2.1 p.2.2 p.2.3)
