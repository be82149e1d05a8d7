-- What stands in a block is read lawfully, if its statements are.
use Rattle.c_grammar.proofs.LawfulParts.{body_law}
use Rattle.c_grammar.proofs.law.read_body.Goals as goal

pub returns : goal.returns
returns c = body_law
