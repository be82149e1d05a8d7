use Rattle.std.proofs.Common.{arith}
use Rattle.graphs.proofs.Search.{starts_below}
use Rattle.graphs.proofs.loops.search.Goals as goal

pub returns : goal.returns
returns c = λ b r. let low = starts_below _ b b r in let far = c.loop-a-test.false in c.loop-a.invariant b (omega arith) r
