use Rattle.std.proofs.Common.{◌≡◌, ◌++◌, map, drop}
use Rattle.ir_core.specs.Operator.{wrap}
use Rattle.c_homes.proofs.homes.push_values.Given as goal

abbrev pub invariant-loop-x : goal.invariant-loop-x
invariant-loop-x l = l.fn.out ++ map (λ (k, z). (k, wrap l.n z)) l.values ≡ l.out ++ map (λ (k, z). (k, wrap l.n z)) (drop l.x-index l.values)
