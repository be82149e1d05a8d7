use Rattle.std.proofs.Common.{◌≡◌, drop, map}
use Rattle.std.specs.Prelude.{flat_map}
use Rattle.nml_tree.specs.Floats.{float_place}
use Rattle.nml_read.proofs.float.further_float.Given as goal

-- what is left has the places of the whole
abbrev pub invariant-loop-par : goal.invariant-loop-par
invariant-loop-par l =
    flat_map float_place (map (λ (comma, p). p.ty) (drop l.par-index l.pars))
    ≡ flat_map float_place (map (λ (comma, p). p.ty) l.pars)
