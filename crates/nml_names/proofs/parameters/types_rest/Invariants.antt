use Rattle.std.proofs.Common.{◌≡◌, drop, map, flat_map}
use Rattle.nml_tree.specs.Uses.{in_type}
use Rattle.nml_names.specs.Found.{met, is_found}
use Rattle.nml_names.proofs.parameters.types_rest.Given as goal

abbrev pub invariant-loop-p : goal.invariant-loop-p
invariant-loop-p l = met (is_found l.s) l.found (flat_map (λ p. in_type p.ty) (map (λ (comma, p). p) (drop l.p-index l.rest))) ≡ met (is_found l.s) l.fn.found (flat_map (λ p. in_type p.ty) (map (λ (comma, p). p) l.rest))
