use Rattle.std.proofs.Common.{◌≡◌, drop, map, option_map}
use Rattle.nml_worth.specs.Rules.{best}
use Rattle.nml_worth.specs.Shown.{shown}
use Rattle.nml_worth.proofs.rules.further.Given as goal

-- the best of the alternatives from here on
abbrev pub invariant-loop-i : goal.invariant-loop-i
invariant-loop-i l = l.found ≡ option_map shown (best l.names (map (λ (bar, n). n.text) (drop l.i l.rest)))
