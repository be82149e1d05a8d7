use Rattle.std.proofs.Common.{◌≡◌, drop}
use Rattle.nml_names.specs.Note.{noted}
use Rattle.nml_names.specs.Found.{with_names, repeated, names_in}
use Rattle.nml_names.proofs.parameters.further.Given as goal

abbrev pub invariant-loop-p : goal.invariant-loop-p
invariant-loop-p l = record {
  keys : with_names l.keys.keys (names_in (drop l.p-index l.rest)) ≡ with_names l.initial.keys.keys (names_in l.rest);
  found : noted l.found (repeated l.keys.keys (names_in (drop l.p-index l.rest))) ≡ noted l.fn.found (repeated l.initial.keys.keys (names_in l.rest));
}
