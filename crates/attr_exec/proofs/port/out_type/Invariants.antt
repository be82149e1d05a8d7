use Rattle.std.proofs.Common.{◌≡◌, [], take, false}
use Rattle.std.specs.List.{list_any}
use Rattle.nml_tree.specs.Table.{entries}
use Rattle.attr_exec.specs.Does.{is_out}
use Rattle.attr_exec.proofs.port.out_type.Given as goal

abbrev pub invariant-loop-i : goal.invariant-loop-i
invariant-loop-i l = list_any is_out (entries [] (take l.i l.items)) ≡ false
