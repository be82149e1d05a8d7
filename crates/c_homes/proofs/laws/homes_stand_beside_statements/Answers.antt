use Rattle.c_homes.proofs.Beside.{homes_are, start_is}
use Rattle.c_homes.proofs.laws.homes_stand_beside_statements.Goals as goal

pub returns-clause-homes : goal.returns-clause-homes
returns-clause-homes c = homes_are

pub returns-clause-start : goal.returns-clause-start
returns-clause-start c = start_is
