-- Each begins so.
use Rattle.readings.proofs.Saying.{at_once, makes}
use Rattle.std.proofs.Common.{refl}
use Rattle.c_tree.proofs.StatementLaws.{statement-Empty, statement-Break, statement-Continue, statement-Return}
use Rattle.c_statement.proofs.statement.ended.Goals as goal

pub returns-in-Ending-clause-says : goal.returns-in-Ending-clause-says
returns-in-Ending-clause-says c = rw (c.in-Ending.is, statement-Empty c.args.at) (at_once (λ n. refl))

pub returns-in_ok-semicolon-in-Breaking-clause-says : goal.returns-in_ok-semicolon-in-Breaking-clause-says
returns-in_ok-semicolon-in-Breaking-clause-says c =
    rw (c.in-Breaking.is, statement-Break c.args.at c.in_ok-semicolon-in-Breaking.semicolon) (makes _ _ _ _ _ c.in_ok-semicolon-in-Breaking.ensures.says)

pub returns-in_ok-semicolon-in-Continuing-clause-says : goal.returns-in_ok-semicolon-in-Continuing-clause-says
returns-in_ok-semicolon-in-Continuing-clause-says c =
    rw (c.in-Continuing.is, statement-Continue c.args.at c.in_ok-semicolon-in-Continuing.semicolon) (makes _ _ _ _ _ c.in_ok-semicolon-in-Continuing.ensures.says)

pub returns-in_ok-e-in-Returning-clause-says : goal.returns-in_ok-e-in-Returning-clause-says
returns-in_ok-e-in-Returning-clause-says c =
    rw (c.in-Returning.is, statement-Return c.args.at c.in_ok-e-in-Returning.e c.in_ok-e-in-Returning.semicolon)
    (makes _ _ _ _ _ c.in_ok-e-in-Returning.ensures.says)
