-- The index needs room for a node of its own, and what is assigned stands behind its bracket.
use Rattle.std.proofs.Common.{◌-◌, codes, map}
use Rattle.std.proofs.lemmas.List.{length-map}
use Rattle.readings.specs.Readings.{sign}
use Rattle.nml_statement.specs.Seen.{expression_of}
use Rattle.readings.specs.Seen.{seen}
use Rattle.nml_statement.proofs.SayingStatements.{comes_narrow}
use Rattle.readings.proofs.Saying.{says_behind_both, says_roomy}
use Rattle.nml_statement.proofs.statement.indexed.Goals as goal

pub returns-then-below-le1-clause-says : goal.returns-then-below-le1-clause-says
returns-then-below-le1-clause-says c = (map seen c.args.here.now, length-map c.args.here.now seen, comes_narrow _ _ _ _ c.if-below-le1.true)

pub returns-clause-says : goal.returns-clause-says
returns-clause-says c =
    says_roomy _ _ _ _ _ _ c.if-below-le1.false (says_behind_both _ _ (expression_of (c.args.room - 1 - 1))
    (sign (codes "]")) _ _ _ _ _ c.in_ok-index.ensures.says c.assignment.ensures.says)
