use Rattle.std.proofs.Common.{◌≡◌, map, max, drop}
use Rattle.ir_run.specs.Entry.{entry}
use Rattle.ir_run.specs.Size.{most_nodes}
use Rattle.c_homes.proofs.number.most_nodes.Given as goal

abbrev pub invariant-loop-statement : goal.invariant-loop-statement
invariant-loop-statement l = most_nodes (map entry l.statements) ≡ max l.most (most_nodes (map entry (drop l.statement-index l.statements)))
