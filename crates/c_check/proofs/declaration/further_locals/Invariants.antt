use Rattle.std.proofs.Common.{◌≡◌, ◌++◌, drop}
use Rattle.c_tree.specs.Names.{behind_variables}
use Rattle.c_tree.specs.Faults.{variables_faults}
use Rattle.c_tree.specs.Recursion.{variables_callees}
use Rattle.c_names.specs.Shown.{names}
use Rattle.c_check.specs.Note.{noted}
use Rattle.c_walk.specs.Walk.{listed}
use Rattle.c_check.proofs.declaration.further_locals.Given as goal

abbrev pub invariant-loop-one : goal.invariant-loop-one
invariant-loop-one l =
    (behind_variables (names l.scopes) (listed (drop l.one-index l.rest)) ≡ behind_variables (names l.initial.scopes) (listed l.rest))
    × (noted l.notes.found (variables_faults l.width.bits (names l.scopes) (listed (drop l.one-index l.rest)))
    ≡ noted l.initial.notes.found (variables_faults l.width.bits (names l.initial.scopes) (listed l.rest)))
    × (l.notes.calls.items ++ variables_callees (names l.scopes) (listed (drop l.one-index l.rest))
    ≡ l.initial.notes.calls.items ++ variables_callees (names l.initial.scopes) (listed l.rest))
