use Rattle.std.proofs.Common.{◌≡◌, drop}
use Rattle.nml_tree.specs.Table.{table}
use Rattle.nml_tree.specs.TypeFault.{alternative_places}
use Rattle.nml_names.specs.Note.{noted}
use Rattle.nml_kinds.specs.Parts.{alternatives_behind}
use Rattle.nml_worth.specs.Shown.{seen_kind}
use Rattle.nml_kinds.proofs.alternative.further_alternatives.Given as goal

abbrev pub invariant-loop-n : goal.invariant-loop-n
invariant-loop-n l =
    noted l.before.found (alternative_places (table l.names) l.mode (seen_kind l.before.kind) (alternatives_behind (drop l.n-index l.rest)))
    ≡ noted l.fn.before.found (alternative_places (table l.names) l.mode (seen_kind l.fn.before.kind) (alternatives_behind l.rest))
