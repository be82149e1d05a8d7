use Rattle.std.proofs.Common.{◌≡◌, ◌++◌, drop, map}
use Rattle.c_tree.specs.Formula.{formula, further}
use Rattle.c_tree.specs.Faults.{further_faults}
use Rattle.c_tree.specs.Recursion.{further_callees}
use Rattle.c_names.specs.Shown.{names}
use Rattle.c_check.specs.Note.{noted}
use Rattle.c_check.proofs.expression.+expressions.Given as goal

abbrev pub invariant-further_arguments-loop-one : goal.invariant-further_arguments-loop-one
invariant-further_arguments-loop-one l =
    (noted l.notes.found (further_faults l.width.bits (names l.scopes) (further (map (λ (comma, y). (comma, formula y)) (drop l.one-index l.rest))))
    ≡ noted l.initial.notes.found (further_faults l.width.bits (names l.scopes) (further (map (λ (comma, y). (comma, formula y)) l.rest))))
    × (l.notes.calls.items ++ further_callees (names l.scopes) (further (map (λ (comma, y). (comma, formula y)) (drop l.one-index l.rest)))
    ≡ l.initial.notes.calls.items ++ further_callees (names l.scopes) (further (map (λ (comma, y). (comma, formula y)) l.rest)))
