use Rattle.std.proofs.Common.{◌≡◌, drop, map}
use Rattle.nml_names.specs.Found.{met, is_found}
use Rattle.nml_names.proofs.used_stmt.arguments.Given as goal

abbrev pub invariant-loop-arg : goal.invariant-loop-arg
invariant-loop-arg l = met (is_found l.s) l.found (map (λ (comma, a). a.name) (drop l.arg-index l.args)) ≡ met (is_found l.s) l.fn.found (map (λ (comma, a). a.name) l.args)
