-- A name, what stands behind it, and the semicolon.
use Rattle.std.proofs.lemmas.Result.{err_from_is_err_and}
use Rattle.readings.proofs.Saying.{both, fails, fails_behind}
use Rattle.c_tree.proofs.StatementLaws.{statement-Simple}
use Rattle.c_statement.proofs.SayingParts.{above, named_narrow, named_fails, named_comes}
use Rattle.c_statement.proofs.statement.named.Goals as goal

pub returns-then-room-eq0-clause-says : goal.returns-then-room-eq0-clause-says
returns-then-room-eq0-clause-says c = named_narrow c.args.room c.args.signs.now c.if-room-eq0.true

pub returns-in_err-simple-clause-says : goal.returns-in_err-simple-clause-says
returns-in_err-simple-clause-says c =
    let p = err_from_is_err_and c.from_residual-in_err-simple.result c.from_residual-in_err-simple.ensures.1 in
    rw (p.1, p.2) (named_fails _ _ _ _ _ _ (above c.args.room c.if-room-eq0.false) c.in_ok-name.ensures.says (fails _ _ _ _ c.in_err-simple.ensures.says))

pub returns-in_err-simple-2-clause-says : goal.returns-in_err-simple-2-clause-says
returns-in_err-simple-2-clause-says c =
    let p = err_from_is_err_and c.from_residual-in_err-simple-2.result c.from_residual-in_err-simple-2.ensures.1 in
    let stop = rw c.in_err-simple-2.ensures at c.mark.ensures.says in
    rw (p.1, p.2) (named_fails _ _ _ _ _ _ (above c.args.room c.if-room-eq0.false) c.in_ok-name.ensures.says
    (fails_behind _ _ _ _ _ _ c.in_ok-simple.ensures.says stop))

pub returns-clause-says : goal.returns-clause-says
returns-clause-says c =
    let semicolon = rw c.in_ok-simple-2.ensures.1 at c.mark.ensures.says in
    rw (c.in_ok-simple-2.ensures.0, statement-Simple c.in_ok-simple.simple c.in_ok-simple-2.semicolon)
    (named_comes _ _ _ _ _ _ _ _ (above c.args.room c.if-room-eq0.false) c.in_ok-name.ensures.says (both _ _ _ _ _ _ _ c.in_ok-simple.ensures.says semicolon))
