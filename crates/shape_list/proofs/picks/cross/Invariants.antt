use Rattle.std.proofs.Common.{◌≡◌, ◌++◌, drop}
use Rattle.nml_tree.specs.ShapeList.{joined}
use Rattle.shape_list.proofs.picks.cross.Given as goal

abbrev pub invariant-loop-x : goal.invariant-loop-x
invariant-loop-x l = l.all.items ++ joined (drop l.x-index l.first) l.second ≡ joined l.first l.second
