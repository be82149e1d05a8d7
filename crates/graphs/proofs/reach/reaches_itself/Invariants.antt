use Rattle.std.proofs.Common.{◌<◌, ℕ, get_or}
use Rattle.graphs.specs.Graphs.{IsSearch, Marked, Edge}
use Rattle.graphs.proofs.reach.reaches_itself.Given as goal

abbrev pub invariant-loop-i : goal.invariant-loop-i
invariant-loop-i l = record {
  search : IsSearch l.graph l.rule l.marks.items l.work.items;
  first : (b : ℕ) → Edge l.graph l.rule b → Marked l.marks.items b;
  done : (k b : ℕ) → k < l.i → Edge l.graph (get_or l.work.items k 0) b → Marked l.marks.items b;
}
