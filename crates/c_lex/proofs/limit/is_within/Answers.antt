-- The first byte says which limit there is.
use Rattle.std.proofs.Common.{◌∙◌, sym}
use Rattle.c_lex.proofs.Limits.{number_within, mark_within}
use Rattle.c_lex.proofs.limit.is_within.Goals as goal

pub returns-then-is_ascii_digit : goal.returns-then-is_ascii_digit
returns-then-is_ascii_digit c =
    number_within c.args.text.now c.in-Some.first.now c.is_some.result c.number_value.result c.in-Some.ensures.value (sym c.is_ascii_digit.ensures.value ∙ c.if-is_ascii_digit.true) c.requires c.is_some.ensures
    c.number_value.ensures

pub returns-else-is_ascii_digit : goal.returns-else-is_ascii_digit
returns-else-is_ascii_digit c =
    mark_within c.args.text.now c.in-Some.first.now c.in-Some.ensures.value (sym c.is_name_start.ensures ∙ c.if-is_name_start.false) (sym c.is_ascii_digit.ensures.value ∙ c.if-is_ascii_digit.false)
