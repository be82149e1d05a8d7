-- The three clauses, by the two lists of parts.
use Rattle.c_lex.specs.Lexed as tokens
use Rattle.c_lex.proofs.Parts.{one, never, place}
use Rattle.c_lex.proofs.Words.{apart}
use Rattle.c_lex.proofs.law.one_lexing.Goals as goal

pub returns-clause-one : goal.returns-clause-one
returns-clause-one c = λ bytes ps qs h g. one tokens.c bytes ps qs apart h g

pub returns-clause-never : goal.returns-clause-never
returns-clause-never c = λ bytes ps at h g. never tokens.c bytes ps at apart h g

pub returns-clause-place : goal.returns-clause-place
returns-clause-place c = λ bytes at other h g. place tokens.c bytes at other apart h g
