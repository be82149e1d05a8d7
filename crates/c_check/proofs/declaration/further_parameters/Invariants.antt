use Rattle.std.proofs.Common.{◌≡◌, drop}
use Rattle.c_tree.specs.Names.{behind_parameters}
use Rattle.c_tree.specs.Faults.{params_faults}
use Rattle.c_names.specs.Shown.{names}
use Rattle.c_check.specs.Note.{noted}
use Rattle.c_walk.specs.Walk.{further_params}
use Rattle.c_check.proofs.declaration.further_parameters.Given as goal

abbrev pub invariant-loop-one : goal.invariant-loop-one
invariant-loop-one l =
    (behind_parameters (names l.scopes) (further_params (drop l.one-index l.rest)) ≡ behind_parameters (names l.initial.scopes) (further_params l.rest))
    × (noted l.notes.found (params_faults (names l.scopes) (further_params (drop l.one-index l.rest)))
    ≡ noted l.initial.notes.found (params_faults (names l.initial.scopes) (further_params l.rest)))
    × (l.notes.calls ≡ l.initial.notes.calls)
