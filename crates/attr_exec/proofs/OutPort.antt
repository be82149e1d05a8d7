-- The first `out` of items.
use Rattle.std.proofs.Common.{ℕ, zero, suc, ◌+◌, ◌<◌, ◌≤◌, List, [], ◌∷◌, ◌++◌, ◌≡◌, length, take, get_or, arith, refl, sym, ◌∙◌, ap, subst, Bool, true, false, append_assoc, append-nil}
use Rattle.std.specs.Prelude.{◌||◌}
use Rattle.std.specs.List.{list_any}
use Rattle.nk_base.specs.declared.number.Ty.{Ty}
use Rattle.nk_base.specs.declared.number.Ty.TheVariants as tys
use Rattle.nml_tree.specs.declared.tree.Item.{Item}
use Rattle.nml_tree.specs.declared.tree.Item.TheVariants as item
use Rattle.nml_tree.specs.declared.tree.PortWord.{PortWord}
use Rattle.nml_tree.specs.declared.tree.PortWord.TheVariants as port
use Rattle.nml_tree.specs.declared.tree.TypeExpr.{TypeExpr}
use Rattle.nml_tree.specs.Table.{Text, Table, Declared, entries, entry, port_of, type_or_none}
use Rattle.nml_tree.specs.Worth.{is_type}
use Rattle.nml_tree.specs.Exec.{out_type}
use Rattle.nml_state.specs.RightTypes.{ItemRight, EachRight}
use Rattle.nml_state.proofs.Lookups.{entries_next, entries_all, each_at}
use Rattle.attr_exec.specs.Does.{is_out}

left_no : (a b : Bool) → (a || b) ≡ false → a ≡ false
left_no true b h = absurd cc
left_no false b h = refl

right_no : (a b : Bool) → (a || b) ≡ false → b ≡ false
right_no true b h = absurd cc
right_no false b h = h

none_push : (t : Table) (e : Text × Declared) → list_any is_out t ≡ false → is_out e ≡ false → list_any is_out (t ++ e ∷ []) ≡ false
none_push [] e h k = rw k refl
none_push (x ∷ t) e h k = let a = left_no (is_out x) (list_any is_out t) h in let b = none_push t e (right_no (is_out x) (list_any is_out t) h) k in rw (a, b) refl

out_skip : (e : Text × Declared) (t : Table) → is_out e ≡ false → out_type (e ∷ t) ≡ out_type t
out_skip (name, Declared.Constant z) t h = refl
out_skip (name, Declared.TypeName ty) t h = refl
out_skip (name, Declared.Storage n k ty) t h = refl
out_skip (name, Declared.Trn n ty) t h = refl
out_skip (name, Declared.Inp ty) t h = refl
out_skip (name, Declared.Out ty) t h = absurd cc
out_skip (name, Declared.Or mode names) t h = refl
out_skip (name, Declared.And rule) t h = refl

out_first : (e : Text × Declared) (t : Table) → is_out e ≡ true → out_type (e ∷ t) ≡ out_type (e ∷ [])
out_first (name, Declared.Constant z) t h = absurd cc
out_first (name, Declared.TypeName ty) t h = absurd cc
out_first (name, Declared.Storage n k ty) t h = absurd cc
out_first (name, Declared.Trn n ty) t h = absurd cc
out_first (name, Declared.Inp ty) t h = absurd cc
out_first (name, Declared.Out ty) t h = refl
out_first (name, Declared.Or mode names) t h = absurd cc
out_first (name, Declared.And rule) t h = absurd cc

out_behind : (t u : Table) → list_any is_out t ≡ false → out_type (t ++ u) ≡ out_type u
out_behind [] u h = refl
out_behind (e ∷ t) u h = out_skip e (t ++ u) (left_no (is_out e) (list_any is_out t) h) ∙ out_behind t u (right_no (is_out e) (list_any is_out t) h)

no_out : (t : Table) → list_any is_out t ≡ false → tys.Bool ≡ out_type t
no_out t h = sym (out_behind t [] h) ∙ ap out_type (append-nil t)

entries_more : (items : List Item) (t : Table) → (r : Table) × (entries t items ≡ t ++ r)
entries_more [] t = ([], sym (append-nil t))
entries_more (i ∷ items) t = let h = entries_more items (t ++ entry t i ∷ []) in (entry t i ∷ h.0, h.1 ∙ append_assoc t (entry t i ∷ []) h.0)

no_right_port : (t : Table) (w : PortWord) (ty : Ty) (name : Text) → is_type ty ≡ true → is_out (name, port_of t w ty) ≡ true → is_type (out_type ((name, port_of t w ty) ∷ [])) ≡ true
no_right_port t (port.Trn at) ty name h k = absurd cc
no_right_port t (port.Inp at) ty name h k = absurd cc
no_right_port t (port.Out at) ty name h k = h

out_right : (t : Table) (i : Item) → ItemRight t i → is_out (entry t i) ≡ true → is_type (out_type (entry t i ∷ [])) ≡ true
out_right t (item.Let at n equals minus z) h k = absurd cc
out_right t (item.Type at n equals e) h k = absurd cc
out_right t (item.Storage s) h k = absurd cc
out_right t (item.Port p) h k = no_right_port t p.word _ p.name.text h k
out_right t (item.OrRule r) h k = absurd cc
out_right t (item.OpRule r) h k = absurd cc
out_right t (item.ModeRule r) h k = absurd cc

from_here : (items : List Item) (t : Table) (i : ℕ) (x : Item) → i < length items → (r : Table) × (entries t items ≡ entries t (take i items) ++ entry (entries t (take i items)) (get_or items i x) ∷ r)
from_here [] t i x low = absurd (omega (arith, low))
from_here (y ∷ items) t zero x low = let h = entries_more items (t ++ entry t y ∷ []) in (h.0, h.1 ∙ append_assoc t (entry t y ∷ []) h.0)
from_here (y ∷ items) t (suc i) x low = from_here items (t ++ entry t y ∷ []) i x (omega (arith, low))

pub out_found : (items : List Item) (i : ℕ) (d : Item) (e : TypeExpr) (r : Ty) → i < length items → list_any is_out (entries [] (take i items)) ≡ false → d ≡ get_or items i d → ((t : Table) → (is_out (entry t d) ≡ true) × (out_type (entry t d ∷ []) ≡ type_or_none t e)) → EachRight [] items
    → (is_type (type_or_none (entries [] (take i items)) e) ≡ true → r ≡ type_or_none (entries [] (take i items)) e) → r ≡ out_type (entries [] items)
out_found items i d e r low none is found right type_is =
    let t : Table = entries [] (take i items) in
    let f = found t in
    let here : ItemRight t d = subst (ItemRight t) (sym is) (each_at items [] i d right low) in
    let ok : is_type (type_or_none t e) ≡ true = subst (λ u. is_type u ≡ true) f.1 (out_right t d here f.0) in
    let w = from_here items [] i d low in
    type_is ok ∙ sym f.1 ∙ sym (out_first (entry t d) w.0 f.0) ∙ sym (out_behind t (entry t d ∷ w.0) none) ∙ ap (λ q. out_type (t ++ entry t q ∷ w.0)) is ∙ ap out_type (sym w.1)

pub next_none : (items : List Item) (i : ℕ) (d : Item) → i < length items → list_any is_out (entries [] (take i items)) ≡ false → d ≡ get_or items i d → ((t : Table) → is_out (entry t d) ≡ false) → list_any is_out (entries [] (take (i + 1) items)) ≡ false
next_none items i d low none is not = ap (list_any is_out) (entries_next items i d low) ∙ none_push (entries [] (take i items)) (entry (entries [] (take i items)) (get_or items i d)) none (ap (λ q. is_out (entry (entries [] (take i items)) q)) (sym is) ∙ not (entries [] (take i items)))

pub none_at_all : (items : List Item) (i : ℕ) → length items ≤ i → list_any is_out (entries [] (take i items)) ≡ false → tys.Bool ≡ out_type (entries [] items)
none_at_all items i low none = no_out (entries [] items) (ap (list_any is_out) (sym (entries_all items i low)) ∙ none)
