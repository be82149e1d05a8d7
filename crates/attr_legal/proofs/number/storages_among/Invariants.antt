use Rattle.std.proofs.Common.{◌≡◌, ◌+◌, ◌≤◌, drop}
use Rattle.attr_legal.specs.Among.{storages_among}
use Rattle.attr_legal.proofs.number.storages_among.Given as goal

abbrev pub invariant-loop-item : goal.invariant-loop-item
invariant-loop-item l = (l.count + storages_among (drop l.item-index l.items) ≡ storages_among l.items) × (l.count ≤ l.item-index)
