use Rattle.std.proofs.Common.{◌<◌, ℕ, get_or, length}
use Rattle.c_cycle.specs.Search.{rank}
use Rattle.c_cycle.proofs.rank.are_below.Given as goal

abbrev pub invariant-loop-i : goal.invariant-loop-i
invariant-loop-i l = (k : ℕ) → k < l.i → get_or l.row k 0 < length l.ranks.items → rank l.ranks.items (get_or l.row k 0) < l.limit
