use Rattle.std.proofs.Common.{◌≡◌, ◌++◌, None, replicate}
use Rattle.c_shapes.proofs.functions.push_parameters.Given as goal

abbrev pub invariant-loop : goal.invariant-loop
invariant-loop l = l.shapes.items ≡ l.fn.shapes.items ++ replicate l.counter None
