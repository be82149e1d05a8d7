use Rattle.std.proofs.Common.{◌≡◌, drop, map}
use Rattle.nml_names.specs.Tallies.{seen, tally}
use Rattle.nml_names.proofs.tally.add_arguments.Given as goal

abbrev pub invariant-loop-arg : goal.invariant-loop-arg
invariant-loop-arg l = tally (seen l.t) (map (λ (comma, a). a.name) (drop l.arg-index l.args)) ≡ tally (seen l.initial.t) (map (λ (comma, a). a.name) l.args)
