-- Declarations are read lawfully.
use Rattle.c_grammar.proofs.LawfulDeclarations.{declaration_law}
use Rattle.c_grammar.proofs.law.read_declaration.Goals as goal

pub returns : goal.returns
returns c = declaration_law
