-- The first byte says which limit there is.
use Rattle.std.proofs.Common.{◌∙◌, sym, ne_eqb}
use Rattle.nml_lex.proofs.Limits.{name_within, number_first, number_within, mark_within}
use Rattle.nml_lex.proofs.limit.is_within.Goals as goal

pub returns-then-is_name_start : goal.returns-then-is_name_start
returns-then-is_name_start c = name_within c.args.text.now c.in-Some.first.now c.in-Some.ensures.value (sym c.is_name_start.ensures ∙ c.if-is_name_start.true) c.requires

pub number_value-requires : goal.number_value-requires
number_value-requires c = number_first c.args.text.now c.in-Some.first.now c.in-Some.ensures.value (sym c.is_ascii_digit.ensures.value ∙ c.if-is_ascii_digit.true) c.requires

pub returns-then-is_ascii_digit : goal.returns-then-is_ascii_digit
returns-then-is_ascii_digit c =
    number_within c.args.text.now c.in-Some.first.now c.is_some.result c.number_value.result c.in-Some.ensures.value (sym c.is_ascii_digit.ensures.value ∙ c.if-is_ascii_digit.true) c.requires c.is_some.ensures
    c.number_value.ensures

pub returns-else-first-eq34 : goal.returns-else-first-eq34
returns-else-first-eq34 c =
    mark_within c.args.text.now c.in-Some.first.now c.in-Some.ensures.value (sym c.is_name_start.ensures ∙ c.if-is_name_start.false) (sym c.is_ascii_digit.ensures.value ∙ c.if-is_ascii_digit.false)
    (ne_eqb c.in-Some.first.now 34 c.if-first-eq34.false)
