use Rattle.std.proofs.Common.{drop}
use Rattle.c_counted.specs.Total.{array_lengths}
use Rattle.c_data.proofs.Parts.{Coming}
use Rattle.c_data.proofs.lengths.push_lengths.Given as goal

abbrev pub invariant-loop-shape : goal.invariant-loop-shape
invariant-loop-shape l = Coming l.n l.fn.out.items l.out.items (array_lengths (drop l.shape-index l.shapes)) (array_lengths l.shapes)
