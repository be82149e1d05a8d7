use Rattle.std.proofs.Common.{◌<◌, ℕ}
use Rattle.c_tree.specs.Recursion.{Reaches}
use Rattle.c_cycle.proofs.search.search_all.Given as goal

abbrev pub invariant-loop-a : goal.invariant-loop-a
invariant-loop-a l = (b : ℕ) → b < l.a → Reaches l.graph b b → ⊥
