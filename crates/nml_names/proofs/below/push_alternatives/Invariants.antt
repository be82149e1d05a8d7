use Rattle.std.proofs.Common.{◌≡◌, drop, map}
use Rattle.nml_names.specs.Below.{looked, with_alternatives}
use Rattle.nml_names.proofs.below.push_alternatives.Given as goal

abbrev pub invariant-loop-n : goal.invariant-loop-n
invariant-loop-n l = with_alternatives (looked l.names.entries) l.numbers.items (map (λ (bar, n). n.text) (drop l.n-index l.rest)) ≡ with_alternatives (looked l.names.entries) l.initial.numbers.items (map (λ (bar, n). n.text) l.rest)
