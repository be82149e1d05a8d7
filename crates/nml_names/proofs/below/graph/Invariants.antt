use Rattle.std.proofs.Common.{◌≡◌, take, map}
use Rattle.nml_names.specs.Below.{looked, below}
use Rattle.nml_names.proofs.below.graph.Given as goal

-- the rows so far
abbrev pub invariant-loop-item : goal.invariant-loop-item
invariant-loop-item l = l.rows.items ≡ map (below (looked l.names.entries)) (take l.item-index l.items)
