-- The first `inp` of items.
use Rattle.std.proofs.Common.{ℕ, zero, suc, ◌+◌, ◌<◌, ◌≤◌, List, [], ◌∷◌, ◌++◌, ◌≡◌, length, take, get_or, arith, refl, sym, ◌∙◌, ap, subst, Bool, true, false, Some, None, append_assoc, append-nil}
use Rattle.std.specs.Prelude.{◌||◌}
use Rattle.std.specs.List.{list_any}
use Rattle.nk_base.specs.declared.number.Ty.{Ty}
use Rattle.nml_tree.specs.declared.tree.Item.{Item}
use Rattle.nml_tree.specs.declared.tree.Item.TheVariants as item
use Rattle.nml_tree.specs.declared.tree.PortWord.{PortWord}
use Rattle.nml_tree.specs.declared.tree.PortWord.TheVariants as port
use Rattle.nml_tree.specs.declared.tree.TypeExpr.{TypeExpr}
use Rattle.nml_tree.specs.Table.{Text, Table, Declared, entries, entry, port_of, type_or_none}
use Rattle.nml_tree.specs.Worth.{is_type}
use Rattle.nml_state.specs.RightTypes.{ItemRight, EachRight}
use Rattle.nml_state.proofs.Lookups.{entries_next, entries_all, each_at}
use Rattle.input_port.specs.Port.{input_type, is_inp}

-- some name of the table is that of an `inp`
abbrev pub has_inp : Table → Bool
has_inp t = list_any (λ e. is_inp e.1) t

pub left_no : (a b : Bool) → (a || b) ≡ false → a ≡ false
left_no true b h = absurd cc
left_no false b h = refl

pub right_no : (a b : Bool) → (a || b) ≡ false → b ≡ false
right_no true b h = absurd cc
right_no false b h = h

none_push : (t : Table) (e : Text × Declared) → has_inp t ≡ false → is_inp e.1 ≡ false → has_inp (t ++ e ∷ []) ≡ false
none_push [] e h k = rw k refl
none_push (x ∷ t) e h k = let a = left_no (is_inp x.1) (has_inp t) h in let b = none_push t e (right_no (is_inp x.1) (has_inp t) h) k in rw (a, b) refl

pub inp_skip : (e : Text × Declared) (t : Table) → is_inp e.1 ≡ false → input_type (e ∷ t) ≡ input_type t
inp_skip (name, Declared.Constant z) t h = refl
inp_skip (name, Declared.TypeName ty) t h = refl
inp_skip (name, Declared.Storage n k ty) t h = refl
inp_skip (name, Declared.Trn n ty) t h = refl
inp_skip (name, Declared.Inp ty) t h = absurd cc
inp_skip (name, Declared.Out ty) t h = refl
inp_skip (name, Declared.Or mode names) t h = refl
inp_skip (name, Declared.And rule) t h = refl

pub inp_first : (e : Text × Declared) (ty : Ty) (t : Table) → e.1 ≡ Declared.Inp ty → input_type (e ∷ t) ≡ Some ty
inp_first (name, x) ty t h = ap (λ d. input_type ((name, d) ∷ t)) h

inp_behind : (t u : Table) → has_inp t ≡ false → input_type (t ++ u) ≡ input_type u
inp_behind [] u h = refl
inp_behind (e ∷ t) u h = inp_skip e (t ++ u) (left_no (is_inp e.1) (has_inp t) h) ∙ inp_behind t u (right_no (is_inp e.1) (has_inp t) h)

no_inp : (t : Table) → has_inp t ≡ false → None ≡ input_type t
no_inp t h = sym (inp_behind t [] h) ∙ ap input_type (append-nil t)

entries_more : (items : List Item) (t : Table) → (r : Table) × (entries t items ≡ t ++ r)
entries_more [] t = ([], sym (append-nil t))
entries_more (i ∷ items) t = let h = entries_more items (t ++ entry t i ∷ []) in (entry t i ∷ h.0, h.1 ∙ append_assoc t (entry t i ∷ []) h.0)

from_here : (items : List Item) (t : Table) (i : ℕ) (x : Item) → i < length items → (r : Table) × (entries t items ≡ entries t (take i items) ++ entry (entries t (take i items)) (get_or items i x) ∷ r)
from_here [] t i x low = absurd (omega (arith, low))
from_here (y ∷ items) t zero x low = let h = entries_more items (t ++ entry t y ∷ []) in (h.0, h.1 ∙ append_assoc t (entry t y ∷ []) h.0)
from_here (y ∷ items) t (suc i) x low = from_here items (t ++ entry t y ∷ []) i x (omega (arith, low))

port_right : (t : Table) (w : PortWord) (ty u : Ty) → is_type ty ≡ true → port_of t w ty ≡ Declared.Inp u → is_type u ≡ true
port_right t (port.Trn at) ty u h k = absurd cc
port_right t (port.Inp at) ty u h k = let same : ty ≡ u = cc in subst (λ v. is_type v ≡ true) same h
port_right t (port.Out at) ty u h k = absurd cc

inp_right : (t : Table) (i : Item) (u : Ty) → ItemRight t i → (entry t i).1 ≡ Declared.Inp u → is_type u ≡ true
inp_right t (item.Let at n equals minus z) u h k = absurd cc
inp_right t (item.Type at n equals e) u h k = absurd cc
inp_right t (item.Storage s) u h k = absurd cc
inp_right t (item.Port p) u h k = port_right t p.word _ u h k
inp_right t (item.OrRule r) u h k = absurd cc
inp_right t (item.OpRule r) u h k = absurd cc
inp_right t (item.ModeRule r) u h k = absurd cc

pub inp_found : (items : List Item) (i : ℕ) (d : Item) (e : TypeExpr) (r : Ty) → i < length items → has_inp (entries [] (take i items)) ≡ false → d ≡ get_or items i d → ((t : Table) → (entry t d).1 ≡ Declared.Inp (type_or_none t e)) → EachRight [] items
    → (is_type (type_or_none (entries [] (take i items)) e) ≡ true → r ≡ type_or_none (entries [] (take i items)) e) → Some r ≡ input_type (entries [] items)
inp_found items i d e r low none is found right type_is =
    let t : Table = entries [] (take i items) in
    let here : ItemRight t d = subst (ItemRight t) (sym is) (each_at items [] i d right low) in
    let w = from_here items [] i d low in
    ap Some (type_is (inp_right t d (type_or_none t e) here (found t))) ∙ sym (inp_first (entry t d) (type_or_none t e) w.0 (found t)) ∙ sym (inp_behind t (entry t d ∷ w.0) none) ∙ ap (λ q. input_type (t ++ entry t q ∷ w.0)) is ∙ ap input_type (sym w.1)

pub next_none : (items : List Item) (i : ℕ) (d : Item) → i < length items → has_inp (entries [] (take i items)) ≡ false → d ≡ get_or items i d → ((t : Table) → is_inp (entry t d).1 ≡ false) → has_inp (entries [] (take (i + 1) items)) ≡ false
next_none items i d low none is not = ap has_inp (entries_next items i d low) ∙ none_push (entries [] (take i items)) (entry (entries [] (take i items)) (get_or items i d)) none (ap (λ q. is_inp (entry (entries [] (take i items)) q).1) (sym is) ∙ not (entries [] (take i items)))

pub none_at_all : (items : List Item) (i : ℕ) → length items ≤ i → has_inp (entries [] (take i items)) ≡ false → None ≡ input_type (entries [] items)
none_at_all items i low none = no_inp (entries [] items) (ap has_inp (sym (entries_all items i low)) ∙ none)
