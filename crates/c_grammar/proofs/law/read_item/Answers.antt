-- Globals are read lawfully.
use Rattle.c_grammar.proofs.LawfulItems.{item_law}
use Rattle.c_grammar.proofs.law.read_item.Goals as goal

pub returns : goal.returns
returns c = item_law
