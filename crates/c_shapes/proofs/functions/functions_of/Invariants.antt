use Rattle.std.proofs.Common.{◌≡◌, ◌++◌, map, drop}
use Rattle.c_tree.specs.Items.{item}
use Rattle.c_shapes.specs.Shapes.{declared_shown, outlines}
use Rattle.c_shapes.proofs.functions.functions_of.Given as goal

abbrev pub invariant-loop-one : goal.invariant-loop-one
invariant-loop-one l = map declared_shown l.functions.items ++ outlines (map item (drop l.one-index l.globals)) ≡ outlines (map item l.globals)
