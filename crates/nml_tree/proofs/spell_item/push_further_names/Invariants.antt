use Rattle.std.proofs.Common.{◌≡◌, ◌++◌, drop, flat_map}
use Rattle.nml_tree.specs.SpellItems.{further_name_spelling}
use Rattle.nml_tree.specs.Ended.{ended}
use Rattle.nml_tree.proofs.spell_item.push_further_names.Given as goal

abbrev pub invariant-loop-name : goal.invariant-loop-name
invariant-loop-name l = l.text ++ ended (flat_map further_name_spelling (drop l.name-index l.names)) ≡ l.initial.text ++ ended (flat_map further_name_spelling l.names)
