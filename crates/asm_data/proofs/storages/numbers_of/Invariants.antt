use Rattle.std.proofs.Common.{[], take}
use Rattle.nml_tree.specs.Table.{entries}
use Rattle.asm_data.proofs.Numbers.{AreCounted}
use Rattle.asm_data.proofs.storages.numbers_of.Given as goal

abbrev pub invariant-loop-item : goal.invariant-loop-item
invariant-loop-item l = AreCounted (entries [] (take l.item-index l.items)) l.numbers.entries l.count l.item-index
