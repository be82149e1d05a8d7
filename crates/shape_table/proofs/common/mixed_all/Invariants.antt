use Rattle.std.proofs.Common.{◌≡◌, drop}
use Rattle.shape_table.specs.Label as spec
use Rattle.shape_table.proofs.common.mixed_all.Given as goal

abbrev pub invariant-loop-c : goal.invariant-loop-c
invariant-loop-c l = spec.mixed_all 0 l.word ≡ spec.mixed_all l.label (drop l.c-index l.word)
