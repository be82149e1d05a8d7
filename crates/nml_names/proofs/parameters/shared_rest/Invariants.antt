use Rattle.std.proofs.Common.{◌≡◌, drop}
use Rattle.nml_names.specs.Note.{noted}
use Rattle.nml_names.specs.Found.{all_shared, names_in}
use Rattle.nml_names.proofs.parameters.shared_rest.Given as goal

abbrev pub invariant-loop-p : goal.invariant-loop-p
invariant-loop-p l = noted l.found (all_shared l.names.entries (names_in (drop l.p-index l.rest))) ≡ noted l.fn.found (all_shared l.names.entries (names_in l.rest))
