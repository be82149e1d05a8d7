use Rattle.std.proofs.Common.{◌≡◌, ◌++◌, drop}
use Rattle.nml_shape.specs.Shown as spec
use Rattle.shape_table.proofs.numbers.numbers_of.Given as goal

abbrev pub invariant-loop-i : goal.invariant-loop-i
invariant-loop-i l = spec.numbers_in l.word l.fields ≡ l.numbers.items ++ spec.numbers_in l.word (drop l.i l.fields)
