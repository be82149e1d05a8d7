use Rattle.std.proofs.Common.{◌≡◌, ◌++◌, map, drop, pos}
use Rattle.ir_core.specs.Operator.{wrap}
use Rattle.c_homes.proofs.homes.push_lengths.Given as goal

abbrev pub invariant-loop-length : goal.invariant-loop-length
invariant-loop-length l = l.fn.out.items ++ map (λ (cell, length). wrap l.n (pos length)) l.arrays ≡ l.out.items ++ map (λ (cell, length). wrap l.n (pos length)) (drop l.length-index l.arrays)
