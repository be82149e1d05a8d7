use Rattle.std.proofs.Common.{◌≡◌, ◌≤◌, [], length, take}
use Rattle.std.specs.Prelude.{filter}
use Rattle.nml_tree.specs.Table.{entries, is_storage}
use Rattle.attr_exec.proofs.count.count_storages.Given as goal

abbrev pub invariant-loop-i : goal.invariant-loop-i
invariant-loop-i l = (l.count ≡ length (filter is_storage (entries [] (take l.i l.items)))) × (l.count ≤ l.i)
