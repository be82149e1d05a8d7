-- the symbols of the tokens so far
use Rattle.std.proofs.Common.{◌≡◌, map, take}
use Rattle.nml_lex.specs.Lexed.{lexeme_of}
use Rattle.readings.specs.Seen.{seen}
use Rattle.c_grammar.specs.Trees.{symbol}
use Rattle.c_read.proofs.sign.signs.Given as goal

abbrev pub invariant-loop-token : goal.invariant-loop-token
invariant-loop-token l = map seen l.found.items ≡ map symbol (map lexeme_of (take l.token-index l.tokens))
