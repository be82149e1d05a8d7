-- Statements and blocks are read lawfully.
use Rattle.c_grammar.proofs.LawfulStatements.{statement_law, block_law}
use Rattle.c_grammar.proofs.law.read_statement.Goals as goal

pub returns-clause-statements : goal.returns-clause-statements
returns-clause-statements c = statement_law

pub returns-clause-blocks : goal.returns-clause-blocks
returns-clause-blocks c = block_law
