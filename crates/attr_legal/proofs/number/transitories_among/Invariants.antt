use Rattle.std.proofs.Common.{◌≡◌, ◌+◌, ◌≤◌, drop}
use Rattle.attr_legal.specs.Among.{transitories_among}
use Rattle.attr_legal.proofs.number.transitories_among.Given as goal

abbrev pub invariant-loop-item : goal.invariant-loop-item
invariant-loop-item l = (l.count + transitories_among (drop l.item-index l.items) ≡ transitories_among l.items) × (l.count ≤ l.item-index)
