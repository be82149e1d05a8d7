use Rattle.std.proofs.Common.{◌++◌, List, take}
use Rattle.nml_tree.specs.declared.tree.Par.{Par}
use Rattle.nml_texts.specs.Around.{further, what_are}
use Rattle.nml_texts.specs.Given.{AreGiven}
use Rattle.nml_texts.proofs.parameters.add_rest.Given as goal

abbrev pub invariant-loop-p : goal.invariant-loop-p
invariant-loop-p l = (ps : List Par) → AreGiven l.initial.map.entries (what_are l.widths ps) → AreGiven l.map.entries (what_are l.widths (ps ++ further (take l.p-index l.rest)))
