-- Calls are read lawfully.
use Rattle.c_grammar.proofs.LawfulCalls.{called_law}
use Rattle.c_grammar.proofs.law.read_call.Goals as goal

pub returns : goal.returns
returns c = called_law
