-- The rule of a name, by the first item that declares it.
use Rattle.std.proofs.Common.{◌≡◌, ℕ, zero, suc, ◌+◌, ◌<◌, ◌≤◌, length, get_or, arith, Bool, true, false, List, [], ◌∷◌, slice_get, Option, Some, None, refl, ap, sym, subst, ◌∙◌, if◌then◌else◌, option_and_then, option_map}
use Rattle.std.proofs.lemmas.Option.{slice_get-get_or}
use Rattle.nml_tree.specs.declared.tree.PortWord.{PortWord}
use Rattle.nml_tree.specs.declared.tree.PortWord.TheVariants as port
use Rattle.nml_tree.specs.declared.tree.Item.{Item}
use Rattle.nml_tree.specs.declared.tree.Item.TheVariants as item
use Rattle.nml_tree.specs.declared.tree.Desc.{Desc}
use Rattle.nk_base.specs.Text.{text_eq}
use Rattle.nk_base.specs.declared.number.Ty.{Ty}
use Rattle.nml_tree.specs.NameFault as fault
use Rattle.nml_tree.specs.Table.{Text, Table, Declared, declared, table, entry, port_of, type_or_none, Parameter, parameter_named}
use Rattle.nml_tree.specs.Uses.{declares}
use Rattle.nml_tree.specs.Worth.{is_rule}
use Rattle.nml_names.specs.declared.names.Declaration.{Declaration}
use Rattle.nml_names.specs.Naming.{constant_of, declaration, least_place, is_late}
use Rattle.nml_names.proofs.RuleNames.{first_item, only_rule, declared_rule, only_back, known_stands}
use Rattle.nml_known.specs.Known.{item_number}
use Rattle.shape_list.specs.declared.rule.Body.{Body}
use Rattle.shape_list.specs.declared.rule.Body.TheVariants as body
use Rattle.shape_list.specs.Body.{IsBody}

no_item : (items : List Item) (j : ℕ) (a : Text) → declaration j items a ≡ None → first_item items a ≡ None
no_item [] j a h = refl
no_item (x ∷ items) j a h = by (text_eq a (declares x).text) h (no_item items (j + 1) a)
  where
    by : (b : Bool) → (if b then Some (record { first = j; place = least_place (declares x).at (declaration (j + 1) items a); late = is_late x; rule = fault.is_rule x; constant = constant_of x }) else declaration (j + 1) items a) ≡ None
        → (declaration (j + 1) items a ≡ None → first_item items a ≡ None) → (if b then Some x else first_item items a) ≡ None
    by true h rest = absurd cc
    by false h rest = rest h

not_rule : (o : Option Declared) → option_and_then only_rule o ≡ None → is_rule o ≡ false
not_rule None h = refl
not_rule (Some (Declared.Constant z)) h = refl
not_rule (Some (Declared.TypeName t)) h = refl
not_rule (Some (Declared.Storage n k t)) h = refl
not_rule (Some (Declared.Trn n t)) h = refl
not_rule (Some (Declared.Inp t)) h = refl
not_rule (Some (Declared.Out t)) h = refl
not_rule (Some (Declared.Or mode names)) h = absurd cc
not_rule (Some (Declared.And rule)) h = absurd cc

-- what is no rule is made of nothing, whichever it is
no_body : (o u : Option Declared) (b : Body) → is_rule o ≡ false → is_rule u ≡ false → IsBody o b → IsBody u b
no_body o u (body.Or rule) not nor h = let e : is_rule o ≡ true = ap is_rule h.1 in absurd cc
no_body o u (body.And pars attrs) not nor h = let e : is_rule o ≡ true = ap is_rule h.1 in absurd cc
no_body o u body.Nothing not nor h = nor

port_is_none : (t : Table) (w : PortWord) (ty : Ty) → is_rule (Some (port_of t w ty)) ≡ false
port_is_none t (port.Trn at) ty = refl
port_is_none t (port.Inp at) ty = refl
port_is_none t (port.Out at) ty = refl

first_body : (d : Desc) (name : Text) (i : Item) (b : Body) → first_item d.items name ≡ Some i → ((t : Table) → IsBody (Some (entry t i).1) b) → IsBody (declared (table d) name) b
first_body d name (item.Let at n equals minus z) b first h = no_body _ _ b refl (not_rule _ (declared_rule d name ∙ (rw first refl))) (h [])
first_body d name (item.Type at n equals e) b first h = no_body _ _ b refl (not_rule _ (declared_rule d name ∙ (rw first refl))) (h [])
first_body d name (item.Storage s) b first h = no_body _ _ b refl (not_rule _ (declared_rule d name ∙ (rw first refl))) (h [])
first_body d name (item.Port p) b first h = no_body _ _ b (port_is_none [] p.word (type_or_none [] p.ty)) (not_rule _ (declared_rule d name ∙ (rw first refl))) (h [])
first_body d name (item.OrRule r) b first h = subst (λ o. IsBody o b) (sym (only_back _ _ (declared_rule d name ∙ (rw first refl)))) (h [])
first_body d name (item.OpRule r) b first h = subst (λ o. IsBody o b) (sym (only_back _ _ (declared_rule d name ∙ (rw first refl)))) (h [])
first_body d name (item.ModeRule r) b first h = subst (λ o. IsBody o b) (sym (only_back _ _ (declared_rule d name ∙ (rw first refl)))) (h [])

pub no_number : (d : Desc) (name : Text) → None ≡ item_number d name → IsBody (declared (table d) name) body.Nothing
no_number d name h = by (declaration 0 d.items name) refl h
  where
    by : (o : Option Declaration) → declaration 0 d.items name ≡ o → None ≡ option_map (λ k. k.first) o → is_rule (declared (table d) name) ≡ false
    by None e h = not_rule _ (declared_rule d name ∙ ap (option_and_then _) (no_item d.items 0 name e))
    by (Some k) e h = absurd cc

-- the item of the number is the first that declares the name
stands_at : (d : Desc) (name : Text) (n : ℕ) → Some n ≡ item_number d name → (i : Item) × (first_item d.items name ≡ Some i) × (slice_get d.items n ≡ Some i)
stands_at d name n h = by (declaration 0 d.items name) refl h
  where
    by : (o : Option Declaration) → declaration 0 d.items name ≡ o → Some n ≡ option_map (λ k. k.first) o → (i : Item) × (first_item d.items name ≡ Some i) × (slice_get d.items n ≡ Some i)
    by None e h = absurd cc
    by (Some k) e h =
        let same : k.first ≡ n = cc in
        let s = known_stands d.items name k e in
        (s.what, s.first, subst (λ m. slice_get d.items m ≡ Some s.what) same s.at)

pub numbered_body : (d : Desc) (name : Text) (n : ℕ) (items : List Item) (i : Item) (b : Body) → Some n ≡ item_number d name → items ≡ d.items → n < length items → i ≡ get_or items n i → ((t : Table) → IsBody (Some (entry t i).1) b) → IsBody (declared (table d) name) b
numbered_body d name n items i b h are low at is =
    let s = stands_at d name n h in
    let g : slice_get d.items n ≡ Some i = ap (λ xs. slice_get xs n) (sym are) ∙ slice_get-get_or items n i low ∙ ap Some (sym at) in
    let same : Some s.0 ≡ Some i = sym s.2 ∙ g in
    first_body d name i b (s.1 ∙ same) is

within : (items : List Item) (n : ℕ) (i : Item) → slice_get items n ≡ Some i → n < length items
within [] n i h = absurd cc
within (x ∷ items) zero i h = omega arith
within (x ∷ items) (suc n) i h = omega (arith, within items n i h)

pub past_items : (d : Desc) (name : Text) (n : ℕ) (items : List Item) → Some n ≡ item_number d name → items ≡ d.items → length items ≤ n → ⊥
past_items d name n items h are past = let s = stands_at d name n h in let l = ap length are in omega (arith, within d.items n s.0 s.2, l, past)

-- a parameter whose type is a name
pub named_part : (name : Text) (o : Option Declared) → is_rule o ≡ true → parameter_named name o ≡ Some (Parameter.Part name)
named_part name None h = absurd cc
named_part name (Some (Declared.Constant z)) h = absurd cc
named_part name (Some (Declared.TypeName t)) h = absurd cc
named_part name (Some (Declared.Storage n k t)) h = absurd cc
named_part name (Some (Declared.Trn n t)) h = absurd cc
named_part name (Some (Declared.Inp t)) h = absurd cc
named_part name (Some (Declared.Out t)) h = absurd cc
named_part name (Some (Declared.Or mode names)) h = refl
named_part name (Some (Declared.And rule)) h = refl

pub no_part : (name : Text) (o : Option Declared) (rule : Text) → is_rule o ≡ false → parameter_named name o ≡ Some (Parameter.Part rule) → ⊥
no_part name None rule h e = cc
no_part name (Some (Declared.Constant z)) rule h e = cc
no_part name (Some (Declared.TypeName t)) rule h e = cc
no_part name (Some (Declared.Storage n k t)) rule h e = cc
no_part name (Some (Declared.Trn n t)) rule h e = cc
no_part name (Some (Declared.Inp t)) rule h e = cc
no_part name (Some (Declared.Out t)) rule h e = cc
no_part name (Some (Declared.Or mode names)) rule h e = cc
no_part name (Some (Declared.And r)) rule h e = cc
