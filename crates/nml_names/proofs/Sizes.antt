-- The numbers of sizes, by the map of names and by the table.
use Rattle.std.proofs.Common.{◌≡◌, ℕ, ◌+◌, ℤ, Bool, true, false, List, [], ◌∷◌, ◌++◌, Option, Some, None, option_and_then, refl, ap, sym, ◌∙◌, if◌then◌else◌}
use Rattle.std.specs.Map.{lookup}
use Rattle.std.specs.Option.{option_or}
use Rattle.nk_base.specs.Text.{text_eq}
use Rattle.nml_tree.specs.declared.tree.Size.{Size}
use Rattle.nml_tree.specs.declared.tree.Size.TheVariants as size
use Rattle.nml_tree.specs.declared.tree.PortWord.{PortWord}
use Rattle.nml_tree.specs.declared.tree.PortWord.TheVariants as port
use Rattle.nml_tree.specs.declared.tree.Item.{Item}
use Rattle.nml_tree.specs.declared.tree.Item.TheVariants as item
use Rattle.nml_tree.specs.declared.tree.Desc.{Desc}
use Rattle.nml_tree.specs.NameFault.{is_rule}
use Rattle.nml_tree.specs.Table.{Text, Table, Declared, constant, table, entry, entries, port_of, type_or_none, size_number}
use Rattle.nml_tree.specs.Uses.{declares}
use Rattle.nml_names.specs.declared.names.Declaration.{Declaration}
use Rattle.nml_names.specs.Naming.{AreDeclared, constant_of, declaration, is_late, least_place, number_in}
use Rattle.nml_names.proofs.RuleNames.{entry_name, found_behind}

entry_constant : (t : Table) (i : Item) → constant (entry t i).1 ≡ constant_of i
entry_constant t (item.Let at n equals minus z) = refl
entry_constant t (item.Type at n equals e) = refl
entry_constant t (item.Storage s) = refl
entry_constant t (item.Port p) = word p.word
  where
    word : (w : PortWord) → constant (port_of t w (type_or_none t p.ty)) ≡ None
    word (port.Trn a) = refl
    word (port.Inp a) = refl
    word (port.Out a) = refl
entry_constant t (item.OrRule r) = refl
entry_constant t (item.OpRule r) = refl
entry_constant t (item.ModeRule r) = refl

-- what a table has, and else what is declared behind it
abbrev earlier_constant : Option Declared → Option Declaration → Option ℤ
earlier_constant (Some x) d = constant x
earlier_constant None d = option_and_then (λ k. k.constant) d

constants_from : (t : Table) (j : ℕ) (items : List Item) (name : Text) → option_and_then constant (lookup (text_eq name) (entries t items)) ≡ earlier_constant (lookup (text_eq name) t) (declaration j items name)
constants_from t j [] name = by (lookup (text_eq name) t)
  where
    by : (x : Option Declared) → option_and_then constant x ≡ earlier_constant x None
    by None = refl
    by (Some x) = refl
constants_from t j (i ∷ items) name =
    constants_from (t ++ entry t i ∷ []) (j + 1) items name
    ∙ ap (λ x. earlier_constant x (declaration (j + 1) items name)) (found_behind name t (entry t i) ∙ ap (λ n. option_or (lookup (text_eq name) t) (if text_eq name n then Some (entry t i).1 else None)) (entry_name t i))
    ∙ by (lookup (text_eq name) t) (text_eq name (declares i).text) (declaration (j + 1) items name)
  where
    by : (x : Option Declared) (b : Bool) (d : Option Declaration)
        → earlier_constant (option_or x (if b then Some (entry t i).1 else None)) d
        ≡ earlier_constant x (if b then Some (record { first = j; place = least_place (declares i).at d; late = is_late i; rule = is_rule i; constant = constant_of i }) else d)
    by (Some x) b d = refl
    by None true d = entry_constant t i
    by None false d = refl

-- a size has the number that the table gives it
pub size_is : (d : Desc) (names : List (Text × Declaration)) (n : Size) → AreDeclared names d.items → number_in names n ≡ size_number (table d) n
size_is d names (size.Number n) known = refl
size_is d names (size.Name n) known = ap (option_and_then (λ k. k.constant)) (known n.text) ∙ sym (constants_from [] 0 d.items n.text)
