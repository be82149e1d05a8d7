-- In a description in which all is right the name of an item is declared as what that item is, and `instruction` is the name of a rule.
use Rattle.std.proofs.Common.{ℕ, zero, suc, ◌<◌, List, [], ◌∷◌, ◌++◌, ◌≡◌, map, take, get_or, length, arith, refl, sym, ◌∙◌, ap, subst, Bool, true, false, cond, Option, Some, None, append_assoc, inl, inr}
use Rattle.std.specs.Prelude.{◌||◌, ◌&&◌, not, codes, flat_map}
use Rattle.std.specs.List.{list_any}
use Rattle.std.specs.Cmp.Lexicographic.{bytes_decides}
use Rattle.nk_base.specs.Text.{text_eq}
use Rattle.nml_tree.specs.declared.names.Name.{Name}
use Rattle.nml_tree.specs.declared.tree.Item.{Item}
use Rattle.nml_tree.specs.declared.tree.Item.TheVariants as item
use Rattle.nml_tree.specs.declared.tree.Desc.{Desc}
use Rattle.nml_tree.specs.declared.fault.Root.TheVariants as root
use Rattle.nml_tree.specs.Table.{Text, Table, Declared, declared, table, entry, entries}
use Rattle.nml_tree.specs.Uses.{declares, parameters}
use Rattle.nml_tree.specs.Places.{when}
use Rattle.nml_tree.specs.NameFault.{is_among, is_register, is_rule, are_same_port, unknown_places, declared_places, parameter_places, shared_places, item_name_places, name_places_from, name_places}
use Rattle.nml_tree.specs.Refused.{IsTyped, By_name, By_root}
use Rattle.nml_state.proofs.Lookups.{entry_name, found_here}
use Rattle.nml_widths.proofs.Fits.{no_left, no_right, when_none}
use Rattle.attr_exec.proofs.Ports.{Placed, placed, none_from}
use Rattle.nml_upward.specs.Upward.{IsRule}

none_step : (b : Bool) (y : Declared) (p q : Option Declared) → (p ≡ None → q ≡ None) → cond b (Some y) p ≡ None → cond b (Some y) q ≡ None
none_step true y p q f h = absurd cc
none_step false y p q f h = f h

none_last : (t : Table) (e : Text × Declared) (name : Text) → declared t name ≡ None → text_eq name e.0 ≡ false → declared (t ++ e ∷ []) name ≡ None
none_last [] e name h k = rw k refl
none_last (a ∷ t) e name h k = none_step (text_eq name a.0) a.1 (declared t name) (declared (t ++ e ∷ []) name) (λ g. none_last t e name g k) h

or_none : (a b : Bool) → (a || b) ≡ false → (a ≡ false) × (b ≡ false)
or_none true b h = absurd cc
or_none false b h = (refl, h)

not_declared : (earlier : List Item) (t : Table) (name : Text) → is_among name (map declares earlier) ≡ false → declared t name ≡ None → declared (entries t earlier) name ≡ None
not_declared [] t name h none = none
not_declared (i ∷ earlier) t name h none =
    let a = or_none (text_eq name (declares i).text) (is_among name (map declares earlier)) h in
    not_declared earlier (t ++ entry t i ∷ []) name a.1 (none_last t (entry t i) name none (rw (entry_name t i) a.0))

places_at : (whole : Table) (all earlier items : List Item) (k : ℕ) (x : Item) → k < length items → name_places_from whole all earlier items ≡ [] → item_name_places whole all (earlier ++ take k items) (get_or items k x) ≡ []
places_at whole all earlier [] k x low h = absurd (omega (arith, low))
places_at whole all earlier (i ∷ items) zero x low h = subst (λ xs. item_name_places whole all xs i ≡ []) (sym (append_nil earlier)) (no_left (item_name_places whole all earlier i) _ h)
  where
    append_nil : (xs : List Item) → xs ++ [] ≡ xs
    append_nil [] = refl
    append_nil (y ∷ ys) = ap (λ zs. y ∷ zs) (append_nil ys)
places_at whole all earlier (i ∷ items) (suc k) x low h =
    subst (λ xs. item_name_places whole all xs (get_or items k x) ≡ []) (append_assoc earlier (i ∷ []) (take k items))
    (places_at whole all (earlier ++ i ∷ []) items k x (omega (arith, low)) (no_right (item_name_places whole all earlier i) _ h))

-- what N4 says of the name of an item
pub own_places : (d : Desc) → IsTyped d → (k : ℕ) (x : Item) → k < length d.items → declared_places (take k d.items) (get_or d.items k x) ≡ []
own_places d typed k x low =
    let names : name_places d ≡ [] = none_from (name_places d) (λ at c. typed 4 (omega arith) (By_name at c)) in
    let earlier : List Item = take k d.items in
    let i : Item = get_or d.items k x in
    let here : item_name_places (table d) d.items earlier i ≡ [] = places_at (table d) d.items [] d.items k x low names in
    let first = no_left (unknown_places (table d) earlier i ++ declared_places earlier i ++ parameter_places [] (parameters i)) (flat_map (shared_places d.items) (parameters i)) here in
    let second = no_left (unknown_places (table d) earlier i ++ declared_places earlier i) (parameter_places [] (parameters i)) first in
    no_right (unknown_places (table d) earlier i) (declared_places earlier i) second

module _ (earlier : List Item) (i : Item) (h : declared_places earlier i ≡ []) where
  abbrev n : Name
  n = declares i

  abbrev first : List ℕ
  first = when (is_among n.text (map declares earlier)) n.at

  abbrev second : List ℕ
  second = when (list_any (are_same_port i) earlier) n.at

  abbrev third : List ℕ
  third = when (text_eq n.text (codes "PC") && not (is_register i)) n.at

  abbrev fourth : List ℕ
  fourth = when (text_eq n.text (codes "instruction") && not (is_rule i)) n.at

  first_of_name : is_among (declares i).text (map declares earlier) ≡ false
  first_of_name = when_none (is_among n.text (map declares earlier)) n.at (no_left first second (no_left (first ++ second) third (no_left (first ++ second ++ third) fourth h)))

  root_rule : text_eq (declares i).text (codes "instruction") ≡ true → is_rule i ≡ true
  root_rule is = named (text_eq n.text (codes "instruction")) (is_rule i) (when_none (text_eq n.text (codes "instruction") && not (is_rule i)) n.at (no_right (first ++ second ++ third) fourth h)) is
    where
      named : (b c : Bool) → (b && not c) ≡ false → b ≡ true → c ≡ true
      named true true h k = refl
      named true false h k = absurd cc
      named false c h k = absurd cc

pub declared_here : (d : Desc) → IsTyped d → (k : ℕ) (x : Item) → k < length d.items
    → declared (table d) (entry (entries [] (take k d.items)) (get_or d.items k x)).0 ≡ Some (entry (entries [] (take k d.items)) (get_or d.items k x)).1
declared_here d typed k x low =
    let earlier : List Item = take k d.items in
    let i : Item = get_or d.items k x in
    let none = not_declared earlier [] (declares i).text (first_of_name earlier i (own_places d typed k x low)) refl in
    let same : text_eq (declares i).text (declares i).text ≡ true = (bytes_decides (declares i).text (declares i).text).1 refl in
    subst (λ name. declared (table d) name ≡ Some (entry (entries [] earlier) i).1) (sym (entry_name (entries [] earlier) i)) (found_here d.items k x (declares i).text low none same)

rule_entry : (u : Table) (a : Text) (i : Item) → is_rule i ≡ true → (t : Table) → declared t a ≡ Some (entry u i).1 → IsRule t a
rule_entry u a (item.Let at n equals minus z) h t is = absurd cc
rule_entry u a (item.Type at n equals x) h t is = absurd cc
rule_entry u a (item.Storage s) h t is = absurd cc
rule_entry u a (item.Port p) h t is = absurd cc
rule_entry u a (item.OrRule r) h t is = rw is refl
rule_entry u a (item.OpRule r) h t is = rw is refl
rule_entry u a (item.ModeRule r) h t is = rw is refl

pub root_is_rule : (d : Desc) → IsTyped d → IsRule (table d) (codes "instruction")
root_is_rule d typed = one (declared (table d) (codes "instruction")) refl
  where
    same_back : (p q : Text) → text_eq p q ≡ true → text_eq q p ≡ true
    same_back p q h = (bytes_decides q p).1 (sym ((bytes_decides p q).0 h))

    found : (x : Declared) → declared (table d) (codes "instruction") ≡ Some x → Placed d.items [] (codes "instruction") x → IsRule (table d) (codes "instruction")
    found x is f =
        let places : declared_places (take f.4.0 d.items) f.1 ≡ [] = subst (λ i. declared_places (take f.4.0 d.items) i ≡ []) f.4.2 (own_places d typed f.4.0 f.1 f.4.1) in
        let named : text_eq (declares f.1).text (codes "instruction") ≡ true = same_back (codes "instruction") (declares f.1).text (subst (λ q. text_eq (codes "instruction") q ≡ true) (entry_name f.0 f.1) f.6) in
        rule_entry f.0 (codes "instruction") f.1 (root_rule (take f.4.0 d.items) f.1 places named) (table d) (is ∙ ap Some (sym f.5))

    one : (o : Option Declared) → declared (table d) (codes "instruction") ≡ o → IsRule (table d) (codes "instruction")
    one None is = absurd (typed 11 (omega arith) (By_root root.Instruction is))
    one (Some x) is = elim (placed d.items [] (codes "instruction") x is) [ inl old ↦ absurd cc | inr f ↦ found x is f ]
