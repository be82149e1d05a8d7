-- Bytes have one list of tokens, and so one answer.
use Rattle.c_grammar.proofs.OneReading.{one_bytes, tree_or_none, tree_or_outside, none_or_outside, one_place, one_outside}
use Rattle.c_grammar.proofs.law.one_reading.Goals as goal

pub returns-clause-one : goal.returns-clause-one
returns-clause-one c = one_bytes

pub returns-clause-never : goal.returns-clause-never
returns-clause-never c = tree_or_none

pub returns-clause-inside : goal.returns-clause-inside
returns-clause-inside c = tree_or_outside

pub returns-clause-apart : goal.returns-clause-apart
returns-clause-apart c = none_or_outside

pub returns-clause-place : goal.returns-clause-place
returns-clause-place c = one_place

pub returns-clause-outside : goal.returns-clause-outside
returns-clause-outside c = one_outside
