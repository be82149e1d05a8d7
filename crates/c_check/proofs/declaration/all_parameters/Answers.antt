use Rattle.c_check.proofs.WalkLaws.{noted_append}
use Rattle.c_check.proofs.declaration.all_parameters.Goals as goal

pub returns-in_ok-parameter-in-Named-clause-found : goal.returns-in_ok-parameter-in-Named-clause-found
returns-in_ok-parameter-in-Named-clause-found c = rw (c.in-Some.is, c.in-Named.is, noted_append, ← c.in_ok-parameter-in-Named.ensures.found, ← c.in_ok-parameter-in-Named.ensures.scopes, ← c.as_slice.ensures) c.further_parameters.ensures.found
