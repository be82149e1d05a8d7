-- What a name is declared as, by the first item that declares it.
use Rattle.std.proofs.Common.{◌≡◌, Bool, true, false, List, [], ◌∷◌, ◌++◌, Some, None, refl, sym, ap, ◌∙◌, if◌then◌else◌}
use Rattle.std.specs.Map.{lookup}
use Rattle.std.specs.Option.{option_or}
use Rattle.nk_base.specs.Text.{text_eq}
use Rattle.nml_tree.specs.declared.tree.Item.{Item}
use Rattle.nml_tree.specs.declared.tree.Desc.{Desc}
use Rattle.nml_tree.specs.Table.{Text, Table, declared, table, entry, entries}
use Rattle.nml_tree.specs.Uses.{declares}
use Rattle.nml_names.proofs.RuleNames.{entry_name, found_behind, first_item, named}
use Rattle.nml_target.specs.Target.{item_named}

-- an entry more declares nothing more, where its item has another name
one_more : (t : Table) (i : Item) (name : Text) → lookup (text_eq name) t ≡ None → text_eq name (declares i).text ≡ false → lookup (text_eq name) (t ++ entry t i ∷ []) ≡ None
one_more t i name h e =
    found_behind name t (entry t i)
    ∙ (λ j. option_or (h j) (if text_eq name (entry_name t i j) then Some (entry t i).1 else None))
    ∙ ap (λ b. if b then Some (entry t i).1 else None) e

none_from : (t : Table) (items : List Item) (name : Text) → lookup (text_eq name) t ≡ None → item_named items name ≡ None → lookup (text_eq name) (entries t items) ≡ None
none_from t [] name h e = h
none_from t (i ∷ items) name h e = by (text_eq name (declares i).text) refl e (λ f. none_from (t ++ entry t i ∷ []) items name (one_more t i name h f))
  where
    by : (b : Bool) → text_eq name (declares i).text ≡ b → (if b then Some i else item_named items name) ≡ None
        → (text_eq name (declares i).text ≡ false → item_named items name ≡ None → lookup (text_eq name) (entries (t ++ entry t i ∷ []) items) ≡ None)
        → lookup (text_eq name) (entries (t ++ entry t i ∷ []) items) ≡ None
    by true f g h = absurd cc
    by false f g h = h f g

-- what no item declares isn't declared
pub not_declared : (d : Desc) (name : Text) → item_named d.items name ≡ None → declared (table d) name ≡ None
not_declared d name e = none_from [] d.items name refl e

same_item : (items : List Item) (name : Text) → item_named items name ≡ first_item items name
same_item [] name = refl
same_item (i ∷ items) name = ap (λ x. if text_eq name (declares i).text then Some i else x) (same_item items name)

-- the item has the name
pub has_name : (items : List Item) (name : Text) (i : Item) → item_named items name ≡ Some i → name ≡ (declares i).text
has_name items name i h = named items name i (sym (same_item items name) ∙ h)
