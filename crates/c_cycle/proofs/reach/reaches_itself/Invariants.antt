use Rattle.std.proofs.Common.{◌<◌, ℕ, get_or, length}
use Rattle.c_tree.specs.Recursion.{Edge}
use Rattle.c_cycle.specs.Search.{IsSearch, Marked}
use Rattle.c_cycle.proofs.reach.reaches_itself.Given as goal

abbrev pub invariant-loop-i : goal.invariant-loop-i
invariant-loop-i l = record {
  search : IsSearch l.graph l.rule l.marks.items l.work.items;
  first : (b : ℕ) → Edge l.graph l.rule b → b < length l.graph → Marked l.marks.items b;
  done : (k b : ℕ) → k < l.i → Edge l.graph (get_or l.work.items k 0) b → b < length l.graph → Marked l.marks.items b;
}
