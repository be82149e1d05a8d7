use Rattle.std.proofs.Common.{◌≡◌, length}
use Rattle.nml_tree.specs.Attribute.{pieces}
use Rattle.nml_tree.specs.Directives as spec
use Rattle.nml_texts.specs.Given.{which}
use Rattle.nml_texts.proofs.characters.are_allowed.Given as goal

abbrev pub invariant-loop-piece : goal.invariant-loop-piece
invariant-loop-piece l = spec.are_allowed (which l.w) (pieces l.text) ≡ spec.are_allowed (which l.w) (pieces l.fn.text)

abbrev pub decreases-loop-piece : goal.decreases-loop-piece
decreases-loop-piece l = length l.text
