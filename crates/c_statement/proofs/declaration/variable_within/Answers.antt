-- Where there is room an initial value may stand behind the name.
use Rattle.c_statement.proofs.Saying.{variable_wide}
use Rattle.c_statement.proofs.declaration.variable_within.Goals as goal

pub returns-else-room-eq0-clause-says : goal.returns-else-room-eq0-clause-says
returns-else-room-eq0-clause-says c = variable_wide _ _ _ _ _ _ c.if-room-eq0.false c.in_ok-name.ensures.says c.variable_behind.ensures.says
