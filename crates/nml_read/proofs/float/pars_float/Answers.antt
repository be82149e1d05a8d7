use Rattle.std.proofs.Common.{ap}
use Rattle.std.specs.Prelude.{flat_map}
use Rattle.nml_tree.specs.Floats.{float_place, par_types}
use Rattle.nml_read.proofs.FirstFloat.{first_of_front}
use Rattle.nml_read.proofs.float.pars_float.Goals as goal

pub returns-in-Some-type_float : goal.returns-in-Some-type_float
returns-in-Some-type_float c =
    first_of_front _ _ _ c.in-Some-type_float.at (ap (λ pars. flat_map float_place (par_types pars)) c.in-Some.is) c.in-Some-type_float.ensures
