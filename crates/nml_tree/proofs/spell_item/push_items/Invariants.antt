use Rattle.std.proofs.Common.{◌≡◌, ◌++◌, drop, flat_map}
use Rattle.nml_tree.specs.SpellItems.{item_spelling}
use Rattle.nml_tree.specs.Ended.{ended}
use Rattle.nml_tree.proofs.spell_item.push_items.Given as goal

abbrev pub invariant-loop-item : goal.invariant-loop-item
invariant-loop-item l = l.text ++ ended (flat_map item_spelling (drop l.item-index l.items)) ≡ l.initial.text ++ ended (flat_map item_spelling l.items)
