use Rattle.std.proofs.Common.{◌≡◌, ◌++◌, drop, map}
use Rattle.isg_lists.specs.Masks as spec
use Rattle.isg_lists.proofs.masks.values_of.Given as goal

abbrev pub invariant-loop-n : goal.invariant-loop-n
invariant-loop-n l = map (spec.value_at l.shapes) l.numbers ≡ l.values.items ++ map (spec.value_at l.shapes) (drop l.n-index l.numbers)
