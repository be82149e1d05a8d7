use Rattle.std.proofs.Common.{◌≡◌, ◌≤◌}
use Rattle.nml_tree.specs.Attribute.{bits_below}
use Rattle.attr_eval.specs.Run.{pushed}
use Rattle.attr_eval.proofs.run.push_low.Given as goal

abbrev pub decreases-loop-rest : goal.decreases-loop-rest
decreases-loop-rest l = l.rest

abbrev pub invariant-loop-rest : goal.invariant-loop-rest
invariant-loop-rest l = (pushed l.out (bits_below l.rest l.z) ≡ pushed l.fn.out (bits_below l.width l.z)) × (l.rest ≤ l.width)
