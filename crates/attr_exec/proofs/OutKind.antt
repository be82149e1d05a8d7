-- In a description in which types are right the `out` is a number.
use Rattle.std.proofs.Common.{◌≡◌, refl, ap, sym, ◌∙◌, subst, arith, List, [], ◌∷◌, ◌++◌, Option, Some, None, Bool, true, false, cond, ◌⊎◌, inl, inr}
use Rattle.std.specs.Prelude.{flat_map, unwrap_or}
use Rattle.nk_base.specs.Text.{text_eq}
use Rattle.nk_base.specs.declared.number.Ty.{Ty}
use Rattle.nk_base.specs.declared.number.Ty.TheVariants as tys
use Rattle.nml_tree.specs.declared.tree.PortWord.{PortWord}
use Rattle.nml_tree.specs.declared.tree.PortWord.TheVariants as port
use Rattle.nml_tree.specs.declared.tree.Item.{Item}
use Rattle.nml_tree.specs.declared.tree.Item.TheVariants as item
use Rattle.nml_tree.specs.declared.tree.Desc.{Desc}
use Rattle.nml_tree.specs.declared.tree.TypeExpr.{TypeExpr}
use Rattle.nml_tree.specs.Table.{Text, Table, Declared, declared, table, entry, entries, type_of, type_or_none, port_of}
use Rattle.nml_tree.specs.Worth.{Number, is_type, of_ty}
use Rattle.nml_tree.specs.TypeFault.{is_port_type, type_places, port_places, item_places, type_fault_places}
use Rattle.nml_tree.specs.Exec.{out_type}
use Rattle.nml_tree.specs.Refused.{IsFreeBelow, By_type}
use Rattle.nml_state.specs.RightTypes.{ItemRight, EachRight}
use Rattle.nml_state.proofs.Lookups.{kept, each_right}
use Rattle.nml_widths.proofs.Fits.{no_left, no_right, unless_none}
use Rattle.attr_exec.proofs.Ports.{Kept, type_kept, none_from}
use Rattle.attr_exec.proofs.Suited.{IsOfKind}
use Rattle.attr_exec.proofs.Grounds.{IsOutRight, of_right}

-- each `out` of a table is a number
abbrev OutNumber : Declared → Type 0
OutNumber (Declared.Out u) = IsOfKind Number u
OutNumber _ = Unit {0}

abbrev OutsNumber : Table → Type 0
OutsNumber [] = Unit {0}
OutsNumber (e ∷ t) = OutNumber e.1 × OutsNumber t

outs_push : (t : Table) (e : Text × Declared) → OutsNumber t → OutNumber e.1 → OutsNumber (t ++ e ∷ [])
outs_push [] e h k = (k, tt)
outs_push (x ∷ t) e h k = (h.0, outs_push t e h.1 k)

port_kind : (u : Ty) → is_port_type (Some u) ≡ true → (of_ty u).kind ≡ Number
port_kind tys.Bool h = absurd cc
port_kind (tys.Card n) h = refl
port_kind (tys.Int n) h = refl

type_kind : (t u : Table) (e : TypeExpr) → Kept t u → is_port_type (type_of u e) ≡ true → (of_ty (type_or_none t e)).kind ≡ Number
type_kind t u e g h = one (type_of t e) refl
  where
    one : (o : Option Ty) → type_of t e ≡ o → (of_ty (unwrap_or o (tys.Card 0))).kind ≡ Number
    one None is = refl
    one (Some ty) is = port_kind ty (ap is_port_type (sym (type_kept t u e ty g is)) ∙ h)

port_number : (t u : Table) (w : PortWord) (e : TypeExpr) → Kept t u → is_type (type_or_none t e) ≡ true → port_places u w e ≡ [] → OutNumber (port_of t w (type_or_none t e))
port_number t u (port.Trn at) e g right h = tt
port_number t u (port.Inp at) e g right h = tt
port_number t u (port.Out at) e g right h = (right, type_kind t u e g (unless_none (is_port_type (type_of u e)) _ h))

item_number : (t u : Table) (i : Item) → Kept t u → ItemRight t i → item_places u i ≡ [] → OutNumber (entry t i).1
item_number t u (item.Let at n equals minus z) g right h = tt
item_number t u (item.Type at n equals e) g right h = tt
item_number t u (item.Storage s) g right h = tt
item_number t u (item.Port p) g right h = port_number t u p.word p.ty g right (no_right (type_places u p.ty) _ h)
item_number t u (item.OrRule r) g right h = tt
item_number t u (item.OpRule r) g right h = tt
item_number t u (item.ModeRule r) g right h = tt

numbers_from : (whole : Table) (items : List Item) (t : Table) → entries t items ≡ whole → EachRight t items → flat_map (item_places whole) items ≡ [] → OutsNumber t → OutsNumber (entries t items)
numbers_from whole [] t is right h o = o
numbers_from whole (i ∷ items) t is right h o =
    numbers_from whole items (t ++ entry t i ∷ []) is right.1 (no_right (item_places whole i) _ h)
    (outs_push t (entry t i) o (item_number t whole i (λ name x k. subst (λ u. declared u name ≡ Some x) is (kept (i ∷ items) t name x k)) right.0 (no_left (item_places whole i) _ h)))

past : (b : Bool) (y x : Declared) (o : Option Declared) → cond b (Some y) o ≡ Some x → (y ≡ x) ⊎ (o ≡ Some x)
past true y x o h = let e : y ≡ x = cc in inl e
past false y x o h = inr h

declared_number : (t : Table) (q : Text) (u : Ty) → declared t q ≡ Some (Declared.Out u) → OutsNumber t → IsOfKind Number u
declared_number [] q u is h = absurd cc
declared_number (e ∷ t) q u is h =
    elim (past (text_eq q e.0) e.1 (Declared.Out u) (declared t q) is) [ inl here ↦ subst OutNumber here h.0 | inr later ↦ declared_number t q u later h.1 ]

out_number : (t : Table) (q : Text) (u : Ty) → declared t q ≡ Some (Declared.Out u) → OutsNumber t → IsOfKind Number (out_type t)
out_number [] q u is h = absurd cc
out_number ((name, Declared.Constant z) ∷ t) q u is h = elim (past (text_eq q name) (Declared.Constant z) (Declared.Out u) (declared t q) is) [ inl here ↦ absurd cc | inr later ↦ out_number t q u later h.1 ]
out_number ((name, Declared.TypeName ty) ∷ t) q u is h = elim (past (text_eq q name) (Declared.TypeName ty) (Declared.Out u) (declared t q) is) [ inl here ↦ absurd cc | inr later ↦ out_number t q u later h.1 ]
out_number ((name, Declared.Storage n k ty) ∷ t) q u is h = elim (past (text_eq q name) (Declared.Storage n k ty) (Declared.Out u) (declared t q) is) [ inl here ↦ absurd cc | inr later ↦ out_number t q u later h.1 ]
out_number ((name, Declared.Trn n ty) ∷ t) q u is h = elim (past (text_eq q name) (Declared.Trn n ty) (Declared.Out u) (declared t q) is) [ inl here ↦ absurd cc | inr later ↦ out_number t q u later h.1 ]
out_number ((name, Declared.Inp ty) ∷ t) q u is h = elim (past (text_eq q name) (Declared.Inp ty) (Declared.Out u) (declared t q) is) [ inl here ↦ absurd cc | inr later ↦ out_number t q u later h.1 ]
out_number ((name, Declared.Out ty) ∷ t) q u is h = h.0
out_number ((name, Declared.Or mode names) ∷ t) q u is h = elim (past (text_eq q name) (Declared.Or mode names) (Declared.Out u) (declared t q) is) [ inl here ↦ absurd cc | inr later ↦ out_number t q u later h.1 ]
out_number ((name, Declared.And rule) ∷ t) q u is h = elim (past (text_eq q name) (Declared.And rule) (Declared.Out u) (declared t q) is) [ inl here ↦ absurd cc | inr later ↦ out_number t q u later h.1 ]

pub out_right : (d : Desc) → IsFreeBelow 8 d → IsOutRight (table d)
out_right d free q u is =
    let places : type_fault_places d ≡ [] = none_from (type_fault_places d) (λ at c. free 6 (omega arith) (By_type at c)) in
    let all = numbers_from (table d) d.items [] refl (each_right d free) places tt in
    let here = declared_number (table d) q u is all in
    let out = out_number (table d) q u is all in
    (out.0, out.1 ∙ sym here.1 ∙ (of_right u here.0).1)
