-- In a description in which all is right the input has 1 to 32 bits.
use Rattle.std.proofs.Common.{ℕ, ◌≡◌, refl, ap, sym, ◌∙◌, subst, arith, List, [], ◌∷◌, ◌++◌, Option, Some, None, true}
use Rattle.std.specs.Prelude.{flat_map, unwrap_or, ◌&&◌, nat_le}
use Rattle.std.proofs.lemmas.Bool.{leb-true, and_parts}
use Rattle.nk_base.specs.declared.number.Ty.{Ty}
use Rattle.nk_base.specs.declared.number.Ty.TheVariants as tys
use Rattle.nk_base.specs.Number.{IsWidth}
use Rattle.nml_tree.specs.declared.tree.PortWord.{PortWord}
use Rattle.nml_tree.specs.declared.tree.PortWord.TheVariants as port
use Rattle.nml_tree.specs.declared.tree.Item.{Item}
use Rattle.nml_tree.specs.declared.tree.Item.TheVariants as item
use Rattle.nml_tree.specs.declared.tree.Desc.{Desc}
use Rattle.nml_tree.specs.declared.tree.TypeExpr.{TypeExpr}
use Rattle.nml_tree.specs.Table.{Text, Table, Declared, declared, table, entry, entries, type_of, type_or_none, port_of}
use Rattle.nml_tree.specs.Worth.{is_type}
use Rattle.nml_tree.specs.TypeFault.{is_port_type, type_places, port_places, item_places, type_fault_places}
use Rattle.nml_tree.specs.Refused.{IsTyped, By_type}
use Rattle.nml_state.specs.RightTypes.{ItemRight, EachRight}
use Rattle.nml_state.proofs.Lookups.{kept, each_right}
use Rattle.nml_widths.proofs.Fits.{no_left, no_right, unless_none}
use Rattle.attr_exec.proofs.Ports.{Kept, type_kept, none_from}
use Rattle.input_lines.specs.Reading.{IsInput}
use Rattle.input_port.specs.Port.{input_type}

-- each `inp` of a table is small
abbrev InpSmall : Declared → Type 0
InpSmall (Declared.Inp ty) = IsInput (Some ty)
InpSmall _ = Unit {0}

abbrev InpsSmall : Table → Type 0
InpsSmall [] = Unit {0}
InpsSmall (e ∷ t) = InpSmall e.1 × InpsSmall t

inps_push : (t : Table) (e : Text × Declared) → InpsSmall t → InpSmall e.1 → InpsSmall (t ++ e ∷ [])
inps_push [] e h k = (k, tt)
inps_push (x ∷ t) e h k = (h.0, inps_push t e h.1 k)

input_small : (t : Table) → InpsSmall t → IsInput (input_type t)
input_small [] h = tt
input_small ((name, Declared.Constant z) ∷ t) h = input_small t h.1
input_small ((name, Declared.TypeName ty) ∷ t) h = input_small t h.1
input_small ((name, Declared.Storage n k ty) ∷ t) h = input_small t h.1
input_small ((name, Declared.Trn n ty) ∷ t) h = input_small t h.1
input_small ((name, Declared.Inp ty) ∷ t) h = h.0
input_small ((name, Declared.Out ty) ∷ t) h = input_small t h.1
input_small ((name, Declared.Or mode names) ∷ t) h = input_small t h.1
input_small ((name, Declared.And rule) ∷ t) h = input_small t h.1

width_is : (n : ℕ) → (nat_le 1 n && nat_le n 64) ≡ true → IsWidth n
width_is n h = let p = and_parts (nat_le 1 n) (nat_le n 64) h in (leb-true 1 n p.0, leb-true n 64 p.1)

of_port : (ty : Ty) → is_type ty ≡ true → is_port_type (Some ty) ≡ true → IsInput (Some ty)
of_port tys.Bool right h = absurd cc
of_port (tys.Card n) right h = (width_is n right, omega (arith, leb-true n 32 h))
of_port (tys.Int n) right h = (width_is n right, omega (arith, leb-true n 32 h))

type_small : (t u : Table) (e : TypeExpr) → Kept t u → is_type (type_or_none t e) ≡ true → is_port_type (type_of u e) ≡ true → IsInput (Some (type_or_none t e))
type_small t u e g right h = one (type_of t e) refl right
  where
    one : (o : Option Ty) → type_of t e ≡ o → is_type (unwrap_or o (tys.Card 0)) ≡ true → IsInput (Some (unwrap_or o (tys.Card 0)))
    one None is right = absurd cc
    one (Some ty) is right = of_port ty right (ap is_port_type (sym (type_kept t u e ty g is)) ∙ h)

port_small : (t u : Table) (w : PortWord) (e : TypeExpr) → Kept t u → is_type (type_or_none t e) ≡ true → port_places u w e ≡ [] → InpSmall (port_of t w (type_or_none t e))
port_small t u (port.Trn at) e g right h = tt
port_small t u (port.Inp at) e g right h = type_small t u e g right (unless_none (is_port_type (type_of u e)) _ h)
port_small t u (port.Out at) e g right h = tt

item_small : (t u : Table) (i : Item) → Kept t u → ItemRight t i → item_places u i ≡ [] → InpSmall (entry t i).1
item_small t u (item.Let at n equals minus z) g right h = tt
item_small t u (item.Type at n equals e) g right h = tt
item_small t u (item.Storage s) g right h = tt
item_small t u (item.Port p) g right h = port_small t u p.word p.ty g right (no_right (type_places u p.ty) _ h)
item_small t u (item.OrRule r) g right h = tt
item_small t u (item.OpRule r) g right h = tt
item_small t u (item.ModeRule r) g right h = tt

small_from : (whole : Table) (items : List Item) (t : Table) → entries t items ≡ whole → EachRight t items → flat_map (item_places whole) items ≡ [] → InpsSmall t → InpsSmall (entries t items)
small_from whole [] t is right h o = o
small_from whole (i ∷ items) t is right h o =
    small_from whole items (t ++ entry t i ∷ []) is right.1 (no_right (item_places whole i) _ h)
    (inps_push t (entry t i) o (item_small t whole i (λ name x k. subst (λ u. declared u name ≡ Some x) is (kept (i ∷ items) t name x k)) right.0 (no_left (item_places whole i) _ h)))

pub types_right : (d : Desc) → IsTyped d → EachRight [] d.items
types_right d typed = each_right d (λ k low. typed k (omega (arith, low)))

pub is_input : (d : Desc) → IsTyped d → IsInput (input_type (table d))
is_input d typed =
    let places : type_fault_places d ≡ [] = none_from (type_fault_places d) (λ at c. typed 6 (omega arith) (By_type at c)) in
    input_small (table d) (small_from (table d) d.items [] refl (types_right d typed) places tt)
