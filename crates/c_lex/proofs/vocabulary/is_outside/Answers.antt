-- The first byte says whether a word or a mark is looked for.
use Rattle.std.proofs.Common.{◌∙◌, sym}
use Rattle.c_lex.proofs.Words.{outside_word, outside_mark}
use Rattle.c_lex.proofs.vocabulary.is_outside.Goals as goal

pub returns-then-is_name_start : goal.returns-then-is_name_start
returns-then-is_name_start c =
    c.is_outside_word.ensures ∙ outside_word c.args.token.now c.in-Some.first.now c.in-Some.ensures.value (sym c.is_name_start.ensures ∙ c.if-is_name_start.true)

pub returns-else-is_name_start : goal.returns-else-is_name_start
returns-else-is_name_start c =
    c.is_outside_mark.ensures ∙ outside_mark c.args.token.now c.in-Some.first.now c.in-Some.ensures.value (sym c.is_name_start.ensures ∙ c.if-is_name_start.false)
