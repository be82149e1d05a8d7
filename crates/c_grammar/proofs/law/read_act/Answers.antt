-- Simple statements are read lawfully.
use Rattle.c_grammar.proofs.LawfulActs.{act_law}
use Rattle.c_grammar.proofs.law.read_act.Goals as goal

pub returns : goal.returns
returns c = act_law
