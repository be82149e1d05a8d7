use Rattle.std.proofs.Common.{◌≡◌, drop, length}
use Rattle.shape_table.specs.Label as spec
use Rattle.shape_table.proofs.common.classed.Given as goal

abbrev pub invariant-loop-i : goal.invariant-loop-i
invariant-loop-i l = spec.classed (length l.pieces) l.pieces ≡ spec.classed l.label (drop l.i l.pieces)
