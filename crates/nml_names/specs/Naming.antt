-- Where the items declare a name.
use Rattle.std.specs.Prelude.{ℕ, ℤ, pos, ◌+◌, min, Bool, true, false, List, [], ◌∷◌, Option, Some, None, option_and_then, ◌≡◌, if◌then◌else◌}
use Rattle.std.specs.Map.{lookup}
use Rattle.nk_base.specs.Text.{text_eq}
use Rattle.nml_tree.specs.declared.tree.Size.{Size}
use Rattle.nml_tree.specs.declared.tree.Size.TheVariants as size
use Rattle.nml_tree.specs.declared.tree.Item.{Item}
use Rattle.nml_tree.specs.declared.tree.Item.TheVariants as item
use Rattle.nml_tree.specs.Table.{Text, signed}
use Rattle.nml_tree.specs.NameFault.{is_rule}
use Rattle.nml_tree.specs.Uses.{declares}
use Rattle.nml_names.specs.declared.names.Declaration.{Declaration}

-- anything but a `let` and a `type` may stand behind its use
abbrev pub is_late : Item → Bool
is_late (item.Let at n equals minus z) = false
is_late (item.Type at n equals e) = false
is_late _ = true

-- the number of a `let`
abbrev pub constant_of : Item → Option ℤ
constant_of (item.Let at n equals minus z) = Some (signed minus (pos z.value))
constant_of _ = None

-- the lesser of a place and that of a declaration
abbrev pub least_place : ℕ → Option Declaration → ℕ
least_place at None = at
least_place at (Some d) = min at d.place

-- the first of these items that declares the name, the items numbered from k, and the least place at which one does
abbrev pub declaration : ℕ → List Item → Text → Option Declaration
declaration k [] name = None
declaration k (i ∷ items) name =
    if text_eq name (declares i).text then Some (record { first = k; place = least_place (declares i).at (declaration (k + 1) items name); late = is_late i; rule = is_rule i; constant = constant_of i })
    else declaration (k + 1) items name

-- the entries have the names that the items declare
abbrev pub AreDeclared : List (Text × Declaration) → List Item → Type 0
AreDeclared entries items = (name : Text) → lookup (text_eq name) entries ≡ declaration 0 items name

-- the number that a size writes or names
abbrev pub number_in : List (Text × Declaration) → Size → Option ℤ
number_in names (size.Number n) = Some (pos n.value)
number_in names (size.Name n) = option_and_then (λ d. d.constant) (lookup (text_eq n.text) names)
