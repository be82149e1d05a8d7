use Rattle.std.proofs.Common.{◌≡◌, [], map, take}
use Rattle.disasm_tool.specs.Names.{storage_names}
use Rattle.nml_tree.specs.Table.{entries}
use Rattle.disasm_tool.proofs.storages.names_of.Given as goal

abbrev pub invariant-loop-item : goal.invariant-loop-item
invariant-loop-item l = map (λ n. n.now) l.names.items ≡ storage_names (entries [] (take l.item-index l.items))
