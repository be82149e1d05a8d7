use Rattle.std.proofs.Common.{◌≡◌, [], take}
use Rattle.nml_tree.specs.Exec.{storages}
use Rattle.nml_tree.specs.Table.{entries}
use Rattle.image_layout.proofs.measured.storages_of.Given as goal

abbrev pub invariant-loop-i : goal.invariant-loop-i
invariant-loop-i l = l.found.items ≡ storages (entries [] (take l.i l.items))
