use Rattle.std.proofs.Common.{drop, map, ◌+◌}
use Rattle.shape_count.specs.Weights.{AreGiven, numbered, par_names}
use Rattle.shape_count.proofs.summary.put_rest.Given as goal

-- the parameters from here on
abbrev pub invariant-loop-i : goal.invariant-loop-i
invariant-loop-i l = AreGiven l.places.entries (numbered (l.i + 1) (par_names (map (λ (comma, p). p) (drop l.i l.rest))))
