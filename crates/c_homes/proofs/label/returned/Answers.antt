use Rattle.std.proofs.Common.{sym, ap, ◌∙◌}
use Rattle.ir_run.specs.Entry.{entry}
use Rattle.c_tree.specs.Lowered.{returned_label}
use Rattle.c_homes.proofs.label.returned.Goals as goal

pub returns-in-Set : goal.returns-in-Set
returns-in-Set c = c.label_of.ensures c.in-Set.field-0 ∙ ap (λ s. returned_label (entry s)) (sym c.in-Set.is)
