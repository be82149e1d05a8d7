use Rattle.std.proofs.Common.{◌+◌, ◌*◌, drop}
use Rattle.isg_legal.proofs.Highest.{asked, highest}
use Rattle.isg_legal.proofs.Sums.{Sums}
use Rattle.isg_legal.proofs.tally.+tallies.Given as goal
use Rattle.isg_nodes.specs.Written.{action}

abbrev pub decreases-weigh : goal.decreases-weigh
decreases-weigh l = asked l.whole.now l.sought

abbrev pub decreases-write : goal.decreases-write
decreases-write l = asked l.whole.now l.sought

abbrev pub decreases-taken : goal.decreases-taken
decreases-taken l = asked l.whole.now l.sought

abbrev pub decreases-one : goal.decreases-one
decreases-one l = asked l.whole.now l.sought + 2 * l.n + 2

abbrev pub decreases-all : goal.decreases-all
decreases-all l = asked l.whole.now l.sought + 2 * highest l.list.now + 1

abbrev pub invariant-all-loop-m : goal.invariant-all-loop-m
invariant-all-loop-m l = Sums l.nodes l.put_in l.fields (action l.nodes l.whole) l.sought (drop l.m-index l.list) l.list l.sum
