-- An assignment is made of its place, and of what is read behind it.
use Rattle.std.proofs.Common.{map}
use Rattle.std.proofs.lemmas.Result.{err_from_is_err_and}
use Rattle.nml_tree.specs.Block.{index}
use Rattle.readings.specs.Seen.{seen}
use Rattle.nml_statement.specs.SeenStatements.{equals}
use Rattle.readings.proofs.Saying.{alike, fails_made, makes, fails_alike}
use Rattle.nml_statement.proofs.SayingStatements.{assigns, assignment_is, put-Assign}
use Rattle.nml_statement.proofs.statement.assignment.Goals as goal

pub returns-in_err-place-clause-says : goal.returns-in_err-place-clause-says
returns-in_err-place-clause-says c =
    let p = err_from_is_err_and c.from_residual.result c.from_residual.ensures.1 in
    let parts = rw c.in_err-place.ensures at c.assigned.ensures.says in
    let name = c.args.place.name in
    let i = index c.args.place.index in
    rw (p.1, p.2) (fails_alike _ _ _ _ (map seen c.args.signs.now) (λ n. assignment_is c.args.room name i n (map seen c.args.signs.now))
    (fails_made _ (assigns name i) (equals c.args.room) _ parts))

pub returns-clause-says : goal.returns-clause-says
returns-clause-says c =
    let parts = rw c.in_ok-place.ensures.1 at c.assigned.ensures.says in
    let name = c.args.place.name in
    let i = index c.args.place.index in
    rw (c.in_ok-place.ensures.0, put-Assign c.args.place c.in_ok-place.at c.in_ok-place.e c.in_ok-place.semicolon)
    (alike _ _ (map seen c.args.signs.now) _ _ (λ n. assignment_is c.args.room name i n (map seen c.args.signs.now))
    (makes (assigns name i) (equals c.args.room) _ _ _ parts))
