-- Where there is room there may be arguments.
use Rattle.c_statement.proofs.Saying.{call_says}
use Rattle.c_statement.proofs.call.call.Goals as goal

pub returns-clause-says : goal.returns-clause-says
returns-clause-says c = call_says _ _ _ _ _ _ c.if-room-eq0.false c.in_default.ensures.behind c.arguments.ensures.says
