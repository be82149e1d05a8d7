-- The first byte tells what the token is.
use Rattle.std.proofs.Common.{◌∙◌, sym, ap}
use Rattle.std.specs.Option.{unwrap_or}
use Rattle.readings.specs.Symbol.{Symbol}
use Rattle.c_read.proofs.Signs.{is_counted, word_is, value_is, number_is, mark_is}
use Rattle.c_read.proofs.sign.sign_of.Goals as goal

pub number_value-requires : goal.number_value-requires
number_value-requires c = is_counted c.args.token.now.text.now c.in-Some.first.now c.in-Some.ensures.value (sym c.is_ascii_digit.ensures.value ∙ c.if-is_ascii_digit.true) c.requires.0

pub returns-then-is_name_start : goal.returns-then-is_name_start
returns-then-is_name_start c =
    c.word.ensures
    ∙ word_is c.args.token.now.at c.args.token.now.text.now c.in-Some.first.now c.in-Some.ensures.value (sym c.is_name_start.ensures ∙ c.if-is_name_start.true) c.requires.0 c.requires.2

pub returns-then-is_ascii_digit : goal.returns-then-is_ascii_digit
returns-then-is_ascii_digit c =
    let digit = sym c.is_ascii_digit.ensures.value ∙ c.if-is_ascii_digit.true in
    let value = value_is c.args.token.now.text.now c.in-Some.first.now c.number_value.result c.in-Some.ensures.value digit c.requires.0 c.requires.1 c.number_value.ensures in
    ap (λ n. Symbol.Number c.args.token.now.at n) (c.unwrap_or.ensures ∙ ap (λ o. unwrap_or o 0) value)
    ∙ number_is c.args.token.now.at c.args.token.now.text.now c.in-Some.first.now c.in-Some.ensures.value digit c.requires.0 c.requires.2

pub returns-else-is_ascii_digit : goal.returns-else-is_ascii_digit
returns-else-is_ascii_digit c =
    mark_is c.args.token.now.at c.args.token.now.text.now c.in-Some.first.now c.in-Some.ensures.value (sym c.is_name_start.ensures ∙ c.if-is_name_start.false)
    (sym c.is_ascii_digit.ensures.value ∙ c.if-is_ascii_digit.false) c.requires.2
