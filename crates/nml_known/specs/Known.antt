-- What names are declared as, with no more of it than kinds and widths ask for.
use Rattle.std.specs.Prelude.{ℕ, min, is_some, List, [], ◌∷◌, ◌++◌, Option, option_map, unwrap_or}
use Rattle.nk_base.specs.declared.number.Ty.{Ty}
use Rattle.nk_base.specs.declared.number.Ty.TheVariants as ty
use Rattle.nml_tree.specs.declared.tree.Item.{Item}
use Rattle.nml_tree.specs.declared.tree.Desc.{Desc}
use Rattle.nml_tree.specs.Table as table
use Rattle.nml_tree.specs.Table.{Text, Table, Declared, entry}
use Rattle.nml_names.specs.Naming.{declaration}
use Rattle.nml_known.specs.declared.known.Known.{Known}
use Rattle.nml_known.specs.declared.known.Known.TheVariants as shown
use Rattle.nml_known.specs.declared.known.Parameter.{Parameter}
use Rattle.nml_known.specs.declared.known.Parameter.TheVariants as parameter

-- a type, of whose bits no more than 65 are told
abbrev pub told : Ty → Ty
told ty.Bool = ty.Bool
told (ty.Card n) = ty.Card (min n 65)
told (ty.Int n) = ty.Int (min n 65)

-- what is told of a declared name
abbrev pub known : Declared → Known
known (Declared.Constant z) = shown.Constant z
known (Declared.TypeName t) = shown.TypeName (told t)
known (Declared.Storage n k t) = shown.Storage k (told t)
known (Declared.Trn n t) = shown.Trn (told t)
known (Declared.Inp t) = shown.Inp (told t)
known (Declared.Out t) = shown.Out (told t)
known (Declared.Or mode names) = shown.Or mode
known (Declared.And rule) = shown.And (is_some rule.value)

-- what each item declares, behind the items of the table
abbrev pub all_known : Table → List Item → List Known
all_known t [] = []
all_known t (i ∷ items) = known (entry t i).1 ∷ all_known (t ++ entry t i ∷ []) items

-- the number of the first item that declares the name, where there is one
abbrev pub item_number : Desc → Text → Option ℕ
item_number d name = option_map (λ k. k.first) (declaration 0 d.items name)

-- what is told of a parameter: the item of a part's rule is named by its number
abbrev pub parameter_told : Desc → table.Parameter → Parameter
parameter_told d (table.Parameter.Field t) = parameter.Field (told t)
parameter_told d (table.Parameter.Part rule) = parameter.Part (unwrap_or (item_number d rule) 0)
