use Rattle.std.proofs.lemmas.List.Elements.{All-get_or}
use Rattle.nml_lex.specs.Lexed.{lexeme_of}
use Rattle.c_read.specs.Seen.{IsSound}
use Rattle.c_read.proofs.sign.signs.Goals as goal

pub sign_of-requires : goal.sign_of-requires
sign_of-requires c = All-get_or (λ t. IsSound (lexeme_of t)) c.args.tokens.now c.loop-token.token-index _ c.loop-token-test.true c.requires
