-- At a letter or an underscore the name bytes make the token.
use Rattle.std.proofs.Common.{◌∙◌, sym}
use Rattle.c_lex.proofs.Lengths.{longest_name}
use Rattle.c_lex.proofs.word.token_length.Goals as goal

pub returns-then-is_name_start : goal.returns-then-is_name_start
returns-then-is_name_start c = c.name_run.ensures ∙ sym (longest_name c.args.bytes.now c.in-Some.first.now c.in-Some.ensures.value (sym c.is_name_start.ensures ∙ c.if-is_name_start.true))
