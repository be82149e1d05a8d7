use Rattle.std.proofs.Common.{◌≡◌, drop, map}
use Rattle.shape_count.specs.Tally.{with_parameters}
use Rattle.shape_count.specs.Tallies.{par_tally}
use Rattle.shape_count.proofs.pars.with_rest.Given as goal

abbrev pub invariant-loop-p : goal.invariant-loop-p
invariant-loop-p l = with_parameters (par_tally l.names l.tallies) l.all (map (λ (comma, p). p) (drop l.p-index l.rest)) ≡ with_parameters (par_tally l.names l.tallies) l.fn.first (map (λ (comma, p). p) l.rest)
