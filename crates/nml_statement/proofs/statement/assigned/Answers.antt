-- Where there is room for a further node, three parts stand one behind the other.
use Rattle.std.proofs.Common.{◌-◌, codes, map}
use Rattle.std.proofs.lemmas.List.{length-map}
use Rattle.std.proofs.lemmas.Result.{err_from_is_err_and}
use Rattle.readings.specs.Readings.{◌>>>◌, sign}
use Rattle.nml_statement.specs.Seen.{expression_of}
use Rattle.readings.specs.Seen.{seen}
use Rattle.readings.proofs.Saying.{both, fails, fails_behind, comes_roomy, fails_roomy}
use Rattle.nml_statement.proofs.SayingStatements.{comes_narrow}
use Rattle.nml_statement.proofs.statement.assigned.Goals as goal

pub returns-then-room-le1-clause-says : goal.returns-then-room-le1-clause-says
returns-then-room-le1-clause-says c = (map seen c.args.signs.now, length-map c.args.signs.now seen, comes_narrow _ _ _ _ c.if-room-le1.true)

pub returns-in_err-at-clause-says : goal.returns-in_err-at-clause-says
returns-in_err-at-clause-says c =
    let p = err_from_is_err_and c.from_residual.result c.from_residual.ensures.1 in
    rw (p.1, p.2) (fails_roomy _ _ _ _ _ c.if-room-le1.false (fails _ (sign (codes "="))
    (expression_of (c.args.room - 1) >>> sign (codes ";")) _ c.in_err-at.ensures.says))

pub returns-in_err-e-clause-says : goal.returns-in_err-e-clause-says
returns-in_err-e-clause-says c =
    let p = err_from_is_err_and c.from_residual-in_err-e.result c.from_residual-in_err-e.ensures.1 in
    rw (p.1, p.2) (fails_roomy _ _ _ _ _ c.if-room-le1.false (fails_behind _ (sign (codes "="))
    (expression_of (c.args.room - 1) >>> sign (codes ";")) _ _ _ c.in_ok-at.ensures.says c.in_err-e.ensures.says))

pub returns-clause-says : goal.returns-clause-says
returns-clause-says c =
    comes_roomy _ _ _ _ _ c.if-room-le1.false (both (sign (codes "="))
    (expression_of (c.args.room - 1) >>> sign (codes ";")) _ _ _ _ _ c.in_ok-at.ensures.says c.in_ok-e.ensures.says)
