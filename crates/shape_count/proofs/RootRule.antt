-- `instruction` is the name of a rule.
use Rattle.std.proofs.Common.{ℕ, zero, suc, ◌≡◌, refl, sym, ◌∙◌, ap, subst, arith, Bool, true, false, List, [], ◌∷◌, ◌++◌, map, Option, Some, None, Contains, codes, inl, inr}
use Rattle.std.specs.Prelude.{not, ◌&&◌, flat_map}
use Rattle.std.specs.List.{list_any}
use Rattle.std.specs.Cmp.Lexicographic.{bytes_decides}
use Rattle.nk_base.specs.Text.{text_eq}
use Rattle.nml_tree.specs.declared.tree.Item.{Item}
use Rattle.nml_tree.specs.declared.tree.Item.TheVariants as item
use Rattle.nml_tree.specs.declared.tree.Desc.{Desc}
use Rattle.nml_tree.specs.declared.fault.Root.TheVariants as root
use Rattle.nml_tree.specs.Table.{Text, Table, Declared, declared, table, entry}
use Rattle.nml_tree.specs.Uses.{declares, parameters}
use Rattle.nml_tree.specs.Places.{when}
use Rattle.nml_tree.specs.NameFault.{is_among, is_register, is_rule, are_same_port, unknown_places, declared_places, parameter_places, shared_places, item_name_places, name_places_from, name_places}
use Rattle.nml_tree.specs.Refused.{IsFreeBelow, By_name, By_root}
use Rattle.nml_state.proofs.Lookups.{entry_name}
use Rattle.nml_widths.proofs.Fits.{no_left, no_right, when_none}
use Rattle.attr_exec.proofs.Ports.{Placed, placed, none_from}
use Rattle.nml_upward.specs.Upward.{IsRule}

named_item : (whole : Table) (all earlier items : List Item) (i : Item) → Contains items i → name_places_from whole all earlier items ≡ [] → (before : List Item) × (item_name_places whole all before i ≡ [])
named_item whole all earlier [] i c h = let l = c.1 in absurd (omega (arith, l))
named_item whole all earlier (x ∷ items) i (zero, low, is) h = (earlier, subst (λ y. item_name_places whole all earlier y ≡ []) is (no_left _ _ h))
named_item whole all earlier (x ∷ items) i (suc k, low, is) h = named_item whole all (earlier ++ x ∷ []) items i (k, omega (arith, low), is) (no_right (item_name_places whole all earlier x) _ h)

left_true : (a b : Bool) → (a && b) ≡ false → a ≡ true → b ≡ false
left_true true b h k = h
left_true false b h k = absurd cc

not_false : (b : Bool) → not b ≡ false → b ≡ true
not_false true h = refl
not_false false h = absurd cc

same_back : (p q : Text) → text_eq p q ≡ true → text_eq q p ≡ true
same_back p q h = (bytes_decides q p).1 (sym ((bytes_decides p q).0 h))

rule_entry : (u : Table) (a : Text) (i : Item) → is_rule i ≡ true → (t : Table) → declared t a ≡ Some (entry u i).1 → IsRule t a
rule_entry u a (item.Let at n equals minus z) h t is = absurd cc
rule_entry u a (item.Type at n equals x) h t is = absurd cc
rule_entry u a (item.Storage s) h t is = absurd cc
rule_entry u a (item.Port p) h t is = absurd cc
rule_entry u a (item.OrRule r) h t is = rw is refl
rule_entry u a (item.OpRule r) h t is = rw is refl
rule_entry u a (item.ModeRule r) h t is = rw is refl

pub root_is_rule : (d : Desc) → IsFreeBelow 12 d → IsRule (table d) (codes "instruction")
root_is_rule d free = one (declared (table d) (codes "instruction")) refl
  where
    found : (x : Declared) → declared (table d) (codes "instruction") ≡ Some x → Placed d.items [] (codes "instruction") x → IsRule (table d) (codes "instruction")
    found x is f =
        let names : name_places d ≡ [] = none_from (name_places d) (λ at c. free 4 (omega arith) (By_name at c)) in
        let here = named_item (table d) d.items [] d.items f.1 f.4 names in
        let first = no_left (unknown_places (table d) here.0 f.1 ++ declared_places here.0 f.1 ++ parameter_places [] (parameters f.1)) (flat_map (shared_places d.items) (parameters f.1)) here.1 in
        let second = no_left (unknown_places (table d) here.0 f.1 ++ declared_places here.0 f.1) (parameter_places [] (parameters f.1)) first in
        let declares_it : declared_places here.0 f.1 ≡ [] = no_right (unknown_places (table d) here.0 f.1) (declared_places here.0 f.1) second in
        let named : text_eq (declares f.1).text (codes "instruction") ≡ true = same_back (codes "instruction") (declares f.1).text (subst (λ q. text_eq (codes "instruction") q ≡ true) (entry_name f.0 f.1) f.6) in
        let n = declares f.1 in
        let above : List ℕ = when (is_among n.text (map declares here.0)) n.at ++ when (list_any (are_same_port f.1) here.0) n.at ++ when (text_eq n.text (codes "PC") && not (is_register f.1)) n.at in
        let place : when (text_eq n.text (codes "instruction") && not (is_rule f.1)) n.at ≡ [] = no_right above (when (text_eq n.text (codes "instruction") && not (is_rule f.1)) n.at) declares_it in
        let rule = not_false (is_rule f.1) (left_true (text_eq (declares f.1).text (codes "instruction")) (not (is_rule f.1)) (when_none (text_eq n.text (codes "instruction") && not (is_rule f.1)) n.at place) named) in
        rule_entry f.0 (codes "instruction") f.1 rule (table d) (is ∙ ap Some (sym f.5))

    one : (o : Option Declared) → declared (table d) (codes "instruction") ≡ o → IsRule (table d) (codes "instruction")
    one None is = absurd (free 11 (omega arith) (By_root root.Instruction is))
    one (Some x) is = elim (placed d.items [] (codes "instruction") x is) [ inl old ↦ absurd cc | inr f ↦ found x is f ]
