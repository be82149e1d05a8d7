use Rattle.std.proofs.Common.{◌≡◌, drop}
use Rattle.c_check.specs.Note.{noted}
use Rattle.c_walk.specs.Walk.{starts_of}
use Rattle.c_check.proofs.declaration.further_starts.Given as goal

abbrev pub invariant-loop-z : goal.invariant-loop-z
invariant-loop-z l =
    (noted l.notes.found (starts_of l.width.bits (drop l.z-index l.rest)) ≡ noted l.initial.notes.found (starts_of l.width.bits l.rest))
    × (l.notes.calls ≡ l.initial.notes.calls)
