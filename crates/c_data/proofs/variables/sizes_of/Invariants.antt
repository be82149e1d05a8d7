use Rattle.std.proofs.Common.{◌≡◌, ◌+◌, drop}
use Rattle.c_tree.specs.Program.{sizes}
use Rattle.c_data.proofs.variables.sizes_of.Given as goal

abbrev pub invariant-loop-shape : goal.invariant-loop-shape
invariant-loop-shape l = l.all + sizes (drop l.shape-index l.shapes) ≡ sizes l.shapes
