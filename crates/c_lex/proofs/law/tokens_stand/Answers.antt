-- Part after part, from the first byte on.
use Rattle.c_lex.specs.Lexed as tokens
use Rattle.c_lex.proofs.Places.{placed}
use Rattle.c_lex.proofs.Words.{apart}
use Rattle.c_lex.proofs.law.tokens_stand.Goals as goal

pub returns : goal.returns
returns c = λ bytes ps h. placed tokens.c bytes ps apart h
