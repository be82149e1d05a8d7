use Rattle.std.proofs.Common.{◌≡◌, drop, flat_map}
use Rattle.nml_tree.specs.Table.{table}
use Rattle.nml_tree.specs.TypeFault as spec
use Rattle.nml_names.specs.Note.{noted}
use Rattle.nml_kinds.specs.Parts.{further}
use Rattle.nml_kinds.proofs.ty.further_parameters.Given as goal

abbrev pub invariant-loop-p : goal.invariant-loop-p
invariant-loop-p l = noted l.found (flat_map (spec.parameter_places (table l.names)) (further (drop l.p-index l.rest))) ≡ noted l.fn.found (flat_map (spec.parameter_places (table l.names)) (further l.rest))
