use Rattle.std.proofs.Common.{◌≡◌, ◌++◌, drop}
use Rattle.c_tree.specs.Names.{body_shapes}
use Rattle.c_tree.specs.Statement.{body}
use Rattle.c_shapes.proofs.bodies.+shapes.Given as goal

abbrev pub invariant-push_block-loop-one : goal.invariant-push_block-loop-one
invariant-push_block-loop-one l = l.shapes.items ++ body_shapes (body (drop l.one-index l.parts)) ≡ l.initial.shapes.items ++ body_shapes (body l.parts)
