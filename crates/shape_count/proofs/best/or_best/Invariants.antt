use Rattle.std.proofs.Common.{◌≡◌, drop, map}
use Rattle.shape_count.specs.Weights.{name_best, with_names}
use Rattle.shape_count.proofs.best.or_best.Given as goal

abbrev pub invariant-loop-n : goal.invariant-loop-n
invariant-loop-n l = with_names (name_best l.names l.known.entries l.key) l.best (map (λ (bar, n). n.text) (drop l.n-index l.rest)) ≡ with_names (name_best l.names l.known.entries l.key) (name_best l.names l.known.entries l.key l.first.text) (map (λ (bar, n). n.text) l.rest)
