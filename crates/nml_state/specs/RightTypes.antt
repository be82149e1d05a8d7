-- That the types which items write have 1 to 64 bits.
use Rattle.std.specs.Prelude.{◌≡◌, true, List, [], ◌∷◌, ◌++◌}
use Rattle.nml_tree.specs.declared.tree.Item.{Item}
use Rattle.nml_tree.specs.declared.tree.Item.TheVariants as item
use Rattle.nml_tree.specs.Table.{Table, entry, type_or_none}
use Rattle.nml_tree.specs.Worth.{is_type}

-- the type that an item writes is right, in the table of the items before it
abbrev pub ItemRight : Table → Item → Type 0
ItemRight t (item.Type at n equals e) = is_type (type_or_none t e) ≡ true
ItemRight t (item.Storage s) = is_type (type_or_none t s.ty) ≡ true
ItemRight t (item.Port p) = is_type (type_or_none t p.ty) ≡ true
ItemRight t _ = Unit {0}

abbrev pub EachRight : Table → List Item → Type 0
EachRight t [] = Unit {0}
EachRight t (i ∷ items) = ItemRight t i × EachRight (t ++ entry t i ∷ []) items
