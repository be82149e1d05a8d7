-- The digits behind the prefix, a 0 alone, or decimal digits.
use Rattle.std.proofs.Common.{◌∙◌, ◌+◌, ap, sym, cond, eqb, ne_eqb}
use Rattle.c_lex.proofs.Lengths.{longest_hexadecimal, longest_zero, longest_decimal}
use Rattle.c_lex.proofs.word.number_length.Goals as goal

pub returns-in-Some : goal.returns-in-Some
returns-in-Some c = c.prefixed_length.ensures ∙ ap (λ n. cond (eqb n 0) 1 (2 + n)) c.hexadecimal_run.ensures ∙ sym (longest_hexadecimal c.args.bytes.now c.in-Some.digits.now c.in-Some.ensures)

pub returns-then-bytes-eq48 : goal.returns-then-bytes-eq48
returns-then-bytes-eq48 c = sym (longest_zero c.args.bytes.now c.if-bytes-eq48.true c.in_default.ensures)

pub returns : goal.returns
returns c = c.digits_len.ensures.run ∙ sym (longest_decimal c.args.bytes.now c.requires (ne_eqb _ 48 c.if-bytes-eq48.false))
