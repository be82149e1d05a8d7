-- Expressions are read lawfully.
use Rattle.c_grammar.proofs.LawfulExpressions.{expression_lawful}
use Rattle.c_grammar.proofs.law.read_expression.Goals as goal

pub returns : goal.returns
returns c = expression_lawful
