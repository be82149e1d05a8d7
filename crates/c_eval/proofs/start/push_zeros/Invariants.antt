use Rattle.std.proofs.Common.{◌≡◌, ◌++◌, pos, replicate}
use Rattle.c_eval.proofs.start.push_zeros.Given as goal

abbrev pub invariant-loop : goal.invariant-loop
invariant-loop l = l.memory.items ≡ l.fn.memory.items ++ replicate l.counter (pos 0)
