-- Items are read from left to right, so no others have their spelling; and symbols without places are read as a description without them.
use Rattle.nml_grammar.proofs.OneItem.{unique_tree}
use Rattle.nml_grammar.proofs.Aside.{aside}
use Rattle.nml_grammar.proofs.law.one_tree.Goals as goal

pub returns-clause-placed : goal.returns-clause-placed
returns-clause-placed c = unique_tree

pub returns-clause-aside : goal.returns-clause-aside
returns-clause-aside c = aside
