use Rattle.std.proofs.Common.{◌≡◌, ◌++◌, drop}
use Rattle.shape_table.specs.Least as spec
use Rattle.shape_table.proofs.same.lows.Given as goal

abbrev pub invariant-loop-i : goal.invariant-loop-i
invariant-loop-i l = spec.lows l.fields ≡ l.numbers.items ++ spec.lows (drop l.i l.fields)
