-- Part after part is cut from the front, to the end or to where none is.
use Rattle.c_lex.specs.Lexed as tokens
use Rattle.c_lex.proofs.Settled.{some}
use Rattle.c_lex.proofs.law.some_lexing.Goals as goal

pub returns : goal.returns
returns c = some tokens.c
