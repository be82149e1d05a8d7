use Rattle.std.proofs.Common.{◌≡◌, drop, map}
use Rattle.nml_edges.specs.Passed.{any_sum}
use Rattle.nml_edges.proofs.rule.of_alternatives.Given as goal

abbrev pub invariant-loop-n : goal.invariant-loop-n
invariant-loop-n l = any_sum l.names l.facts l.m (map (λ (bar, n). n.text) (drop l.n-index l.rest)) ≡ any_sum l.names l.facts l.fn.first (map (λ (bar, n). n.text) l.rest)
