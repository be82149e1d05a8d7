use Rattle.std.proofs.Common.{◌≡◌, drop, map}
use Rattle.shape_count.specs.Tally.{with_alternatives}
use Rattle.shape_count.specs.Tallies.{tally_named}
use Rattle.shape_count.proofs.pars.or_tally.Given as goal

abbrev pub invariant-loop-n : goal.invariant-loop-n
invariant-loop-n l = with_alternatives (tally_named l.names l.tallies) l.all (map (λ (bar, n). n.text) (drop l.n-index l.rest)) ≡ with_alternatives (tally_named l.names l.tallies) (tally_named l.names l.tallies l.first.text) (map (λ (bar, n). n.text) l.rest)
