use Rattle.std.proofs.Common.{append_assoc}
use Rattle.c_check.proofs.WalkLaws.{noted_append}
use Rattle.c_check.proofs.declaration.locals.Goals as goal

pub returns-clause-found : goal.returns-clause-found
returns-clause-found c = rw (noted_append, ← c.in_ok-local.ensures.found, ← c.in_ok-local.ensures.scopes, ← c.as_slice.ensures) c.further_locals.ensures.found

pub returns-clause-calls : goal.returns-clause-calls
returns-clause-calls c = rw (← append_assoc, ← c.in_ok-local.ensures.calls, ← c.in_ok-local.ensures.scopes, ← c.as_slice.ensures) c.further_locals.ensures.calls
