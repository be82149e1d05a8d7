-- The three clauses, by the two lists of parts.
use Rattle.nml_lex.proofs.Parts.{one, never, place}
use Rattle.nml_lex.proofs.law.one_lexing.Goals as goal

pub returns-clause-one : goal.returns-clause-one
returns-clause-one c = one

pub returns-clause-never : goal.returns-clause-never
returns-clause-never c = never

pub returns-clause-place : goal.returns-clause-place
returns-clause-place c = place
