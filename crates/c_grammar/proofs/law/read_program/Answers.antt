-- Reading to the end tells the program, or the place.
use Rattle.c_grammar.proofs.Programs.{found_tree, stuck_tree}
use Rattle.c_grammar.proofs.law.read_program.Goals as goal

pub returns-clause-found : goal.returns-clause-found
returns-clause-found c = found_tree

pub returns-clause-stuck : goal.returns-clause-stuck
returns-clause-stuck c = stuck_tree
