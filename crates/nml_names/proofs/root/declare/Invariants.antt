use Rattle.std.proofs.Common.{◌≡◌, drop, map}
use Rattle.nml_tree.specs.NameFault.{is_among}
use Rattle.nml_tree.specs.Uses.{declares}
use Rattle.nml_names.proofs.root.declare.Given as goal

abbrev pub invariant-loop-item : goal.invariant-loop-item
invariant-loop-item l = is_among l.name (map declares (drop l.item-index l.items)) ≡ is_among l.name (map declares l.items)
