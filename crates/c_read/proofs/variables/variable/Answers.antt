-- What stands behind the name.
use Rattle.readings.proofs.Saying.{says_later}
use Rattle.c_grammar.specs.Globals.{global_behind}
use Rattle.c_grammar.specs.Words.{name}
use Rattle.c_read.proofs.variables.variable.Goals as goal

pub returns-clause-says : goal.returns-clause-says
returns-clause-says c =
    says_later _ _ name _ _ _ (λ n x s. global_behind x n s) c.in_ok-name.ensures.says c.variable_behind.ensures.says
