-- Every reading settles, so there is an answer, and there is one.
use Rattle.c_grammar.proofs.Programs.{some_tree, tree_or_none, one_place}
use Rattle.c_grammar.proofs.law.some_tree.Goals as goal

pub returns-clause-tree : goal.returns-clause-tree
returns-clause-tree c = some_tree

pub returns-clause-never : goal.returns-clause-never
returns-clause-never c = tree_or_none

pub returns-clause-place : goal.returns-clause-place
returns-clause-place c = one_place
