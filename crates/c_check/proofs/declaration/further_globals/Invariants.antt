use Rattle.std.proofs.Common.{◌≡◌, drop}
use Rattle.c_tree.specs.Names.{behind_gvars}
use Rattle.c_tree.specs.Faults.{gvars_faults}
use Rattle.c_names.specs.Shown.{names}
use Rattle.c_check.specs.Note.{noted}
use Rattle.c_walk.specs.Walk.{further_gvars}
use Rattle.c_check.proofs.declaration.further_globals.Given as goal

abbrev pub invariant-loop-one : goal.invariant-loop-one
invariant-loop-one l =
    (behind_gvars (names l.scopes) (further_gvars (drop l.one-index l.rest)) ≡ behind_gvars (names l.initial.scopes) (further_gvars l.rest))
    × (noted l.notes.found (gvars_faults l.width.bits (names l.scopes) (further_gvars (drop l.one-index l.rest)))
    ≡ noted l.initial.notes.found (gvars_faults l.width.bits (names l.initial.scopes) (further_gvars l.rest)))
    × (l.notes.calls ≡ l.initial.notes.calls)
