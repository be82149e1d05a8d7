use Rattle.std.proofs.Common.{◌<◌, ℕ, get_or}
use Rattle.graphs.specs.Graphs.{IsUp}
use Rattle.graphs.proofs.rank.all_up.Given as goal

abbrev pub invariant-loop-i : goal.invariant-loop-i
invariant-loop-i l = (k : ℕ) → k < l.i → IsUp l.strict l.rank (get_or l.ranks (get_or l.names k 0) 0)
