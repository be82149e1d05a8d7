-- Programs are read from their spelling, so no others have it; and symbols without places are read as a program without them.
use Rattle.c_grammar.proofs.Programs.{one_program, unique_tree}
use Rattle.c_grammar.proofs.Aside.{aside}
use Rattle.c_grammar.proofs.law.one_tree.Goals as goal

pub returns-clause-one : goal.returns-clause-one
returns-clause-one c = one_program

pub returns-clause-placed : goal.returns-clause-placed
returns-clause-placed c = unique_tree

pub returns-clause-aside : goal.returns-clause-aside
returns-clause-aside c = aside
