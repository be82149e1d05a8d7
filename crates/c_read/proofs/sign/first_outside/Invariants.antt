-- none of the tokens so far is left out
use Rattle.std.proofs.Common.{◌≡◌, map, drop}
use Rattle.nml_lex.specs.Lexed.{lexeme_of}
use Rattle.c_grammar.specs.Trees.{outside_places}
use Rattle.c_read.proofs.sign.first_outside.Given as goal

abbrev pub invariant-loop-token : goal.invariant-loop-token
invariant-loop-token l = outside_places (map lexeme_of l.tokens) ≡ outside_places (map lexeme_of (drop l.token-index l.tokens))
