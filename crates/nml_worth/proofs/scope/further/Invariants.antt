use Rattle.std.proofs.Common.{drop, map}
use Rattle.nml_worth.specs.Around.{AreGiven}
use Rattle.nml_worth.proofs.scope.further.Given as goal

-- the parameters from here on
abbrev pub invariant-loop-i : goal.invariant-loop-i
invariant-loop-i l = AreGiven l.names (map (λ (comma, p). p) (drop l.i l.rest)) l.found.entries
