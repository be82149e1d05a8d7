use Rattle.std.proofs.Common.{◌≡◌, ◌++◌, drop}
use Rattle.c_tree.specs.Lowered.{arrays_among}
use Rattle.c_lower.proofs.arrays.push_arrays.Given as goal

abbrev pub invariant-loop-shape : goal.invariant-loop-shape
invariant-loop-shape l =
    l.out.items ++ arrays_among l.next (drop l.shape-index l.shapes) ≡ l.fn.out.items ++ arrays_among l.cell l.shapes
