use Rattle.std.proofs.Common.{◌<◌, ℕ, length}
use Rattle.shape_table.specs.Label.{MeetsNone}
use Rattle.shape_table.proofs.pair.first_of.Given as goal

abbrev pub invariant-loop-i : goal.invariant-loop-i
invariant-loop-i l = (k : ℕ) → k < l.i → MeetsNone l.common l.shapes k (length l.shapes)
