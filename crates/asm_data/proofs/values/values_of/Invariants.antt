use Rattle.std.proofs.Common.{map}
use Rattle.asm_data.proofs.Walking.{AreSoFar}
use Rattle.asm_data.proofs.values.values_of.Given as goal
use Rattle.asm_data.specs.Storages.{AreStorages}
use Rattle.asm_lines.specs.Seen.{seen}
use Rattle.nml_tree.specs.Table.{Table}

abbrev pub invariant-loop-i : goal.invariant-loop-i
invariant-loop-i l = (t : Table) → AreStorages t l.storages → AreSoFar t (map seen l.lines) l.i l.values.entries
