-- Whether a name is declared at all.
use Rattle.std.proofs.Common.{◌≡◌, Bool, true, false, ◌||◌, List, [], ◌∷◌, ◌++◌, map, Option, Some, None, is_some, refl, ap, sym, ◌∙◌, if◌then◌else◌, true≢false, codes}
use Rattle.std.specs.Map.{lookup}
use Rattle.std.specs.Option.{option_or}
use Rattle.nk_base.specs.Text.{text_eq}
use Rattle.nml_tree.specs.declared.tree.Item.{Item}
use Rattle.nml_tree.specs.declared.tree.Desc.{Desc}
use Rattle.nml_tree.specs.declared.fault.Root.{Root}
use Rattle.nml_tree.specs.declared.fault.Root.TheVariants as root
use Rattle.nml_tree.specs.Table.{Text, Table, Declared, declared, table, entry, entries}
use Rattle.nml_tree.specs.Uses.{declares}
use Rattle.nml_tree.specs.NameFault.{is_among}
use Rattle.nml_tree.specs.Refused.{Lacks}
use Rattle.nml_names.proofs.RuleNames.{entry_name, found_behind}

there : (t : Table) (items : List Item) (name : Text) → is_some (lookup (text_eq name) (entries t items)) ≡ (is_some (lookup (text_eq name) t) || is_among name (map declares items))
there t [] name = by (is_some (lookup (text_eq name) t))
  where
    by : (b : Bool) → b ≡ (b || false)
    by true = refl
    by false = refl
there t (i ∷ items) name =
    there (t ++ entry t i ∷ []) items name
    ∙ ap (λ x. is_some x || is_among name (map declares items)) (found_behind name t (entry t i) ∙ ap (λ n. option_or (lookup (text_eq name) t) (if text_eq name n then Some (entry t i).1 else None)) (entry_name t i))
    ∙ by (lookup (text_eq name) t) (text_eq name (declares i).text)
  where
    by : (x : Option Declared) (b : Bool) → (is_some (option_or x (if b then Some (entry t i).1 else None)) || is_among name (map declares items)) ≡ (is_some x || (b || is_among name (map declares items)))
    by (Some x) b = refl
    by None true = refl
    by None false = refl

none_from : (x : Option Declared) → is_some x ≡ false → x ≡ None
none_from None h = refl
none_from (Some x) h = absurd (true≢false h)

pub lacking : (d : Desc) (items : List Item) (name : Text) → items ≡ d.items → is_among name (map declares items) ≡ false → declared (table d) name ≡ None
lacking d items name of h = none_from (declared (table d) name) (there [] d.items name ∙ ap (λ xs. is_among name (map declares xs)) (sym of) ∙ h)

pub having : (d : Desc) (items : List Item) (name : Text) → items ≡ d.items → is_among name (map declares items) ≡ true → declared (table d) name ≡ None → ⊥
having d items name of h none = true≢false (sym h ∙ ap (λ xs. is_among name (map declares xs)) of ∙ sym (there [] d.items name) ∙ ap is_some none)

pub neither : (d : Desc) → (declared (table d) (codes "instruction") ≡ None → ⊥) → (declared (table d) (codes "PC") ≡ None → ⊥) → (what : Root) → Lacks (table d) what → ⊥
neither d i p root.Instruction h = i h
neither d i p root.Pc h = p h
