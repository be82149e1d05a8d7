use Rattle.std.proofs.Common.{◌≤◌, length}
use Rattle.graphs.specs.Graphs.{Ordering}
use Rattle.graphs.proofs.settle.settled.Given as goal

abbrev pub invariant-loop-round : goal.invariant-loop-round
invariant-loop-round l = record {
  ordering : Ordering l.graph l.order.items l.placed.items (length l.order.items);
  long : l.round ≤ length l.order.items;
}
