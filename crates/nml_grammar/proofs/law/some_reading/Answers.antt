-- Every reading settles, so there is an answer.
use Rattle.nml_grammar.proofs.SomeReading.{some_tree, some_float}
use Rattle.nml_grammar.proofs.law.some_reading.Goals as goal

pub returns-clause-tree : goal.returns-clause-tree
returns-clause-tree c = some_tree

pub returns-clause-float : goal.returns-clause-float
returns-clause-float c = some_float
