-- Parameters are read lawfully.
use Rattle.c_grammar.proofs.LawfulParameters.{parameters_law}
use Rattle.c_grammar.proofs.law.read_parameters.Goals as goal

pub returns : goal.returns
returns c = parameters_law
