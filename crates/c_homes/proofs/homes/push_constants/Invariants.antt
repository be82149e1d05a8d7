use Rattle.std.proofs.Common.{◌≡◌, ◌++◌, drop}
use Rattle.c_homes.proofs.homes.push_constants.Given as goal

abbrev pub invariant-loop-x : goal.invariant-loop-x
invariant-loop-x l = l.fn.out ++ l.values ≡ l.out ++ drop l.x-index l.values
