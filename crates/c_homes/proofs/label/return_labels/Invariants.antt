use Rattle.std.proofs.Common.{◌≡◌, ◌++◌, map, drop, flat_map}
use Rattle.ir_run.specs.Entry.{entry}
use Rattle.c_tree.specs.Lowered.{returned_label}
use Rattle.c_homes.proofs.label.return_labels.Given as goal

abbrev pub invariant-loop-statement : goal.invariant-loop-statement
invariant-loop-statement l = flat_map returned_label (map entry l.statements) ≡ l.labels.items ++ flat_map returned_label (map entry (drop l.statement-index l.statements))
