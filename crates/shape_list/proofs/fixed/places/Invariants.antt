use Rattle.std.proofs.Common.{◌≡◌, ◌++◌, drop}
use Rattle.shape_list.specs.Fixed.{fields_at}
use Rattle.shape_list.proofs.fixed.places.Given as goal

abbrev pub invariant-loop-n : goal.invariant-loop-n
invariant-loop-n l = l.fields.items ++ fields_at l.image l.n (drop l.n l.types) ≡ fields_at l.image 0 l.types
