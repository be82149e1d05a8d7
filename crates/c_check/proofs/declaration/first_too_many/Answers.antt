use Rattle.std.proofs.Common.{sym}
use Rattle.std.proofs.lemmas.Bool.{ltb-true}
use Rattle.c_check.proofs.Initials.{some_behind}
use Rattle.c_check.proofs.declaration.first_too_many.Goals as goal

pub returns-in-Some : goal.returns-in-Some
returns-in-Some c = rw (some_behind c.args.length c.args.first c.args.rest.now c.in-Some.field-0.now c.if-length-eq0.false (ltb-true _ _ (sym c.in-Some.ensures.lookup.0)) c.in-Some.ensures.lookup.1, ← c.place_of-in-Some.ensures) c.kind_unless-in-Some.ensures
