use Rattle.nml_grammar.proofs.OneReading.{one_description, tree_or_none, one_place}
use Rattle.nml_grammar.proofs.law.one_reading.Goals as goal

pub returns-clause-one : goal.returns-clause-one
returns-clause-one c = one_description

pub returns-clause-never : goal.returns-clause-never
returns-clause-never c = tree_or_none

pub returns-clause-place : goal.returns-clause-place
returns-clause-place c = one_place
