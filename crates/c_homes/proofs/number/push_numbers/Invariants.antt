use Rattle.std.proofs.Common.{◌≡◌, ◌++◌, map, drop}
use Rattle.ir_run.specs.Entry.{entry}
use Rattle.ir_run.specs.Size.{constants_of_all}
use Rattle.c_homes.proofs.number.push_numbers.Given as goal

abbrev pub invariant-loop-statement : goal.invariant-loop-statement
invariant-loop-statement l = l.fn.out.items ++ constants_of_all (map entry l.statements) ≡ l.out.items ++ constants_of_all (map entry (drop l.statement-index l.statements))
