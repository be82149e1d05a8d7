use Rattle.std.proofs.Common.{◌≡◌, ◌+◌, drop, map}
use Rattle.shape_count.specs.Weights.{par_best, with_pars}
use Rattle.shape_count.proofs.best.with_rest.Given as goal

abbrev pub invariant-loop-i : goal.invariant-loop-i
invariant-loop-i l = with_pars (par_best l.names l.known.entries l.s l.key) (l.i + 1) l.best (map (λ (comma, p). p) (drop l.i l.rest)) ≡ with_pars (par_best l.names l.known.entries l.s l.key) 1 l.fn.first (map (λ (comma, p). p) l.rest)
