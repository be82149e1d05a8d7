use Rattle.std.proofs.Common.{◌<◌, ℕ}
use Rattle.graphs.specs.Graphs.{Reaches}
use Rattle.graphs.proofs.loops.search.Given as goal

abbrev pub invariant-loop-a : goal.invariant-loop-a
invariant-loop-a l = (b : ℕ) → b < l.a → Reaches l.graph b b → ⊥
