use Rattle.c_check.proofs.WalkLaws.{noted_append}
use Rattle.c_check.proofs.declaration.globals.Goals as goal

pub returns-clause-found : goal.returns-clause-found
returns-clause-found c = rw (noted_append, ← c.in_ok-global.ensures.found, ← c.in_ok-global.ensures.scopes, ← c.as_slice.ensures) c.further_globals.ensures.found
