use Rattle.std.proofs.Common.{length}
use Rattle.c_flat.proofs.Chained.{Chained}
use Rattle.c_flat.proofs.chain.push_list.Given as goal

abbrev pub invariant-loop-first : goal.invariant-loop-first
invariant-loop-first l = Chained l.kind l.fn.nodes.items l.nodes.items l.fn.numbers.items l.left.items l.rest

abbrev pub decreases-loop-first : goal.decreases-loop-first
decreases-loop-first l = length l.left.items
