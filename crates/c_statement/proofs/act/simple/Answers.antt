-- What stands behind the name.
use Rattle.readings.proofs.Saying.{says_later}
use Rattle.c_grammar.specs.Acts.{act_behind}
use Rattle.c_grammar.specs.Words.{name}
use Rattle.c_statement.proofs.act.simple.Goals as goal

pub returns-clause-says : goal.returns-clause-says
returns-clause-says c =
    says_later _ _ name _ _ _ (λ n x s. act_behind c.args.room x n s) c.in_ok-name.ensures.says c.simple_behind.ensures.says
