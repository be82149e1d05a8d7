use Rattle.std.proofs.Common.{◌≡◌, ◌≤◌, [], length, take}
use Rattle.std.specs.Prelude.{filter}
use Rattle.nml_tree.specs.Table.{entries, is_trn}
use Rattle.attr_exec.proofs.count.count_trns.Given as goal

abbrev pub invariant-loop-i : goal.invariant-loop-i
invariant-loop-i l = (l.count ≡ length (filter is_trn (entries [] (take l.i l.items)))) × (l.count ≤ l.i)
