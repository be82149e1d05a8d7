use Rattle.std.proofs.Common.{◌≡◌, ◌++◌, drop, map}
use Rattle.c_tree.specs.Items.{item}
use Rattle.c_tree.specs.Faults.{globals_faults, faults}
use Rattle.c_tree.specs.Recursion.{graph, calls_of}
use Rattle.c_names.specs.Shown.{names}
use Rattle.c_check.specs.Note.{noted, nothing}
use Rattle.c_check.proofs.global.note_all.Given as goal

abbrev pub invariant-loop-one : goal.invariant-loop-one
invariant-loop-one l =
    (noted l.notes.found (globals_faults l.width.bits (names l.scopes) (map item (drop l.one-index l.globals)))
    ≡ noted nothing (faults (map item l.globals) l.width.bits))
    × (l.rows.items ++ graph (names l.scopes) (map item (drop l.one-index l.globals)) ≡ calls_of (map item l.globals))
