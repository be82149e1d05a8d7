use Rattle.std.proofs.Common.{◌≡◌, ◌++◌, map, drop, pos}
use Rattle.ir_core.specs.Operator.{wrap}
use Rattle.c_homes.proofs.homes.push_bases.Given as goal

abbrev pub invariant-loop-cell : goal.invariant-loop-cell
invariant-loop-cell l = l.fn.out ++ map (λ (k, c). (k, wrap l.n (pos c))) l.bases ≡ l.out ++ map (λ (k, c). (k, wrap l.n (pos c))) (drop l.cell-index l.bases)
