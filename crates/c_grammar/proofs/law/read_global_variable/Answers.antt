-- Global variables are read lawfully.
use Rattle.c_grammar.proofs.LawfulGlobals.{global_variable_law}
use Rattle.c_grammar.proofs.law.read_global_variable.Goals as goal

pub returns : goal.returns
returns c = global_variable_law
