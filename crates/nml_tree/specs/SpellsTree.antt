-- The description that symbols spell.
use Rattle.std.specs.Prelude.{◌≡◌, ◌≤◌, List, All}
use Rattle.nml_tree.specs.declared.tree.Desc.{Desc}
use Rattle.nml_tree.specs.Symbol.{Symbol}
use Rattle.nml_tree.specs.Level.{IsLeveledItem}
use Rattle.nml_tree.specs.Depth.{item_depth, depth_limit}
use Rattle.nml_tree.specs.SpellItems.{spelling}

-- the symbols are the description's, each operator has the operands that it would get in a text, and no item is too deep
pub record SpellsTree (symbols : List Symbol) (d : Desc) : Type 0 where
  pub leveled : All IsLeveledItem d.items
  pub shallow : All (λ i. item_depth i ≤ depth_limit) d.items
  pub spelled : symbols ≡ spelling d
