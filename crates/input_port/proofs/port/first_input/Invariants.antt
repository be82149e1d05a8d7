use Rattle.std.proofs.Common.{◌≡◌, [], take, false}
use Rattle.nml_tree.specs.Table.{entries}
use Rattle.input_port.proofs.First.{has_inp}
use Rattle.input_port.proofs.port.first_input.Given as goal

abbrev pub invariant-loop-i : goal.invariant-loop-i
invariant-loop-i l = has_inp (entries [] (take l.i l.items)) ≡ false
