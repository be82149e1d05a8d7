use Rattle.std.proofs.Common.{length, ◌<◌}
use Rattle.c_cycle.specs.Search.{rank}
use Rattle.c_cycle.proofs.Searches.{each_of}
use Rattle.c_cycle.proofs.rank.are_below.Goals as goal

pub returns : goal.returns
returns c = λ all y m low. each_of (λ y. y < length c.args.ranks.now.items → rank c.args.ranks.now.items y < c.args.limit) c.args.row.now c.loop-i.i c.loop-i.invariant c.loop-i-test.false y m low
