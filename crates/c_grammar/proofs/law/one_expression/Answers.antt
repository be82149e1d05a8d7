-- An expression is read from its spelling, so no other has it.
use Rattle.c_grammar.proofs.Complete.{unique}
use Rattle.c_grammar.proofs.law.one_expression.Goals as goal

pub returns : goal.returns
returns c = unique
