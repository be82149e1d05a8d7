use Rattle.std.proofs.Common.{map, sym, ap, ◌∙◌}
use Rattle.std.specs.Prelude.{flat_map}
use Rattle.nml_tree.specs.Floats.{float_place}
use Rattle.nml_tree.proofs.Drops.{dropped}
use Rattle.nml_read.proofs.FirstFloat.{first_of_front}
use Rattle.nml_read.proofs.float.further_float.Goals as goal

pub returns-in-Some : goal.returns-in-Some
returns-in-Some c =
    let left = dropped c.args.pars.now c.loop-par.par-index c.loop-par-item.result c.loop-par-test.true c.loop-par-item.is in
    let parts = ap (λ pars. flat_map float_place (map (λ (comma, p). p.ty) pars)) left in
    first_of_front _ _ _ c.in-Some.at (sym c.loop-par.invariant ∙ parts) c.in-Some.ensures
