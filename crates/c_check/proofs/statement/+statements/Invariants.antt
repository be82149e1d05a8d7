use Rattle.std.proofs.Common.{◌≡◌, ◌++◌, drop}
use Rattle.c_tree.specs.Statement.{body}
use Rattle.c_tree.specs.Faults.{body_faults}
use Rattle.c_tree.specs.Recursion.{body_callees}
use Rattle.c_names.specs.Shown.{names}
use Rattle.c_check.specs.Note.{noted}
use Rattle.c_walk.specs.Walk.{behind_body}
use Rattle.c_check.specs.Within.{within}
use Rattle.c_check.proofs.statement.+statements.Given as goal

abbrev pub invariant-parts_of-loop-one : goal.invariant-parts_of-loop-one
invariant-parts_of-loop-one l =
    (behind_body (names l.scopes) (body (drop l.one-index l.parts)) ≡ behind_body (names l.initial.scopes) (body l.parts))
    × (noted l.notes.found (body_faults (within l.around) (names l.scopes) (body (drop l.one-index l.parts)))
    ≡ noted l.initial.notes.found (body_faults (within l.around) (names l.initial.scopes) (body l.parts)))
    × (l.notes.calls.items ++ body_callees (names l.scopes) (body (drop l.one-index l.parts))
    ≡ l.initial.notes.calls.items ++ body_callees (names l.initial.scopes) (body l.parts))
