-- A space or a token more is taken from the rest.
use Rattle.std.proofs.Common.{◌∙◌, ◌<◌, sym, ap, length, refl, arith}
use Rattle.std.proofs.lemmas.Bool.Decides.{nat_tests}
use Rattle.c_lex.specs.Form.{is_token}
use Rattle.c_lex.specs.Lexed as tokens
use Rattle.c_lex.proofs.Begun.{at_space, at_word}
use Rattle.c_lex.proofs.Longest.{longest_within, longest_token, word_is, word_front}
use Rattle.c_lex.proofs.scan.lex.Goals as goal

pub loop-behind-preserved-in-Some : goal.loop-behind-preserved-in-Some
loop-behind-preserved-in-Some c = at_space tokens.c c.args.bytes.now c.loop-behind.list.items c.loop-behind.rest.now c.in-Some.behind.now c.loop-behind.invariant c.in-Some.ensures

pub split_at-requires : goal.split_at-requires
split_at-requires c = omega (arith, c.token_length.ensures, longest_within tokens.c c.loop-behind.rest.now)

pub is_within-requires : goal.is_within-requires
is_within-requires c =
    let some : 0 < length c.split_at.result.0.now = grind (arith, nat_tests) in
    ap is_token c.split_at.ensures.front ∙ longest_token tokens.c c.loop-behind.rest.now c.token_length.result c.token_length.ensures (omega (arith, c.split_at.ensures.front_len))

pub loop-behind-preserved : goal.loop-behind-preserved
loop-behind-preserved c =
    let some : 0 < length c.split_at.result.0.now = grind (arith, nat_tests) in
    at_word tokens.c c.args.bytes.now c.loop-behind.list.items c.push.new.self.items c.loop-behind.rest.now c.split_at.result.1.now _ c.loop-behind.invariant
    (word_front c.loop-behind.rest.now c.split_at.result.0.now c.split_at.result.1.now c.token_length.result c.split_at.ensures.front c.split_at.ensures.back)
    (word_is tokens.c c.loop-behind.rest.now c.split_at.result.0.now c.split_at.result.1.now c.token_length.result c.token_length.ensures c.split_at.ensures.front c.split_at.ensures.back some
    (sym c.is_within.ensures ∙ c.if-not-is_within.false))
    refl c.in_ok-push.ensures.items
