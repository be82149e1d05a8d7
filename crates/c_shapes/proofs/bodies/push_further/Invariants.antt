use Rattle.std.proofs.Common.{◌≡◌, ◌++◌, map, drop}
use Rattle.c_tree.specs.Names.{shape}
use Rattle.c_walk.specs.Walk.{listed}
use Rattle.c_shapes.proofs.bodies.push_further.Given as goal

abbrev pub invariant-loop-one : goal.invariant-loop-one
invariant-loop-one l = l.shapes.items ++ map shape (listed (drop l.one-index l.rest)) ≡ l.fn.shapes.items ++ map shape (listed l.rest)
