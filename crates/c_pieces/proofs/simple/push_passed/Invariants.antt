use Rattle.std.proofs.Common.{drop}
use Rattle.c_pieces.proofs.Parts.{Passing}
use Rattle.c_pieces.proofs.simple.push_passed.Given as goal

abbrev pub invariant-loop-value : goal.invariant-loop-value
invariant-loop-value l = Passing l.fn.out.items l.out.items l.parameter l.to l.values (drop l.value-index l.values)
