-- The digits behind a prefix, or decimal ones.
use Rattle.std.proofs.Common.{◌∙◌, ◌+◌, ap, sym, cond, eqb}
use Rattle.nml_lex.proofs.Lengths.{longest_hexadecimal, longest_binary, longest_decimal}
use Rattle.nml_lex.proofs.word.number_length.Goals as goal

pub returns-in-Some : goal.returns-in-Some
returns-in-Some c = c.prefixed_length.ensures ∙ ap (λ n. cond (eqb n 0) 1 (2 + n)) c.hexadecimal_run.ensures ∙ sym (longest_hexadecimal c.args.bytes.now c.in-Some.digits.now c.in-Some.ensures)

pub returns-in-Some-behind_prefix : goal.returns-in-Some-behind_prefix
returns-in-Some-behind_prefix c =
    c.prefixed_length-in-Some-behind_prefix.ensures ∙ ap (λ n. cond (eqb n 0) 1 (2 + n)) c.binary_run.ensures ∙ sym (longest_binary c.args.bytes.now c.in-Some-behind_prefix.digits.now c.in-Some-behind_prefix.ensures)

pub returns : goal.returns
returns c = c.digits_len.ensures.run ∙ sym (longest_decimal c.args.bytes.now c.requires c.in_default.ensures c.in_default-behind_prefix.ensures)
