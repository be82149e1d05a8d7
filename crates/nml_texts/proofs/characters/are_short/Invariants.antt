use Rattle.std.proofs.Common.{◌≡◌, ◌≤◌, length}
use Rattle.nml_tree.specs.Attribute.{pieces}
use Rattle.nml_tree.specs.Directives as spec
use Rattle.nml_texts.proofs.characters.are_short.Given as goal

abbrev pub invariant-loop-piece : goal.invariant-loop-piece
invariant-loop-piece l = (spec.are_short l.run (pieces l.text) ≡ spec.are_short 0 (pieces l.fn.text)) × (l.run ≤ 18)

abbrev pub decreases-loop-piece : goal.decreases-loop-piece
decreases-loop-piece l = length l.text
