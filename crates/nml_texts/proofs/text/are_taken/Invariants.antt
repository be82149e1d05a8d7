use Rattle.std.proofs.Common.{◌≡◌, length}
use Rattle.nml_tree.specs.Attribute.{pieces}
use Rattle.nml_tree.specs.Directives as spec
use Rattle.nml_tree.specs.Directives.{Pars}
use Rattle.nml_texts.specs.Given.{AreGiven, which}
use Rattle.nml_texts.proofs.text.are_taken.Given as goal

abbrev pub invariant-loop-piece : goal.invariant-loop-piece
invariant-loop-piece l = (pars : Pars) → AreGiven l.map.entries pars → spec.are_taken (which l.w) pars (pieces l.text) l.args ≡ spec.are_taken (which l.w) pars (pieces l.fn.text) l.fn.args

abbrev pub decreases-loop-piece : goal.decreases-loop-piece
decreases-loop-piece l = length l.text
