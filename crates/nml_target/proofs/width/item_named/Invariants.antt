use Rattle.std.proofs.Common.{◌≡◌, drop}
use Rattle.nml_target.specs.Target.{item_named}
use Rattle.nml_target.proofs.width.item_named.Given as goal

abbrev pub invariant-loop-item : goal.invariant-loop-item
invariant-loop-item l = item_named (drop l.item-index l.items) l.name ≡ item_named l.items l.name
