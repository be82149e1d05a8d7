use Rattle.std.proofs.Common.{◌≡◌, drop, map}
use Rattle.nml_names.specs.Below.{looked, with_parts}
use Rattle.nml_names.proofs.below.push_parts.Given as goal

abbrev pub invariant-loop-p : goal.invariant-loop-p
invariant-loop-p l = with_parts (looked l.names.entries) l.numbers.items (map (λ (comma, p). p) (drop l.p-index l.rest)) ≡ with_parts (looked l.names.entries) l.initial.numbers.items (map (λ (comma, p). p) l.rest)
