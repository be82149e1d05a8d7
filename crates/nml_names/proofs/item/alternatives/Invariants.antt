use Rattle.std.proofs.Common.{◌≡◌, drop, map}
use Rattle.nml_names.specs.Found.{met, is_found}
use Rattle.nml_names.proofs.item.alternatives.Given as goal

abbrev pub invariant-loop-n : goal.invariant-loop-n
invariant-loop-n l = met (is_found l.s) l.found (map (λ (bar, n). n) (drop l.n-index l.rest)) ≡ met (is_found l.s) l.fn.found (map (λ (bar, n). n) l.rest)
