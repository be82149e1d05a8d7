-- Three bytes, two, one or none make the mark.
use Rattle.std.proofs.Common.{◌∙◌, sym}
use Rattle.c_lex.proofs.Lengths.{longest_three, longest_two, longest_one, longest_none}
use Rattle.c_lex.proofs.word.mark_length.Goals as goal

pub returns-then-begins_triple : goal.returns-then-begins_triple
returns-then-begins_triple c =
    sym (longest_three c.args.bytes.now (record { no_start = c.requires.no_name; no_digit = c.requires.no_number; no_comment = c.requires.no_comment }) (sym c.begins_triple.ensures ∙ c.if-begins_triple.true))

pub returns-then-begins_double : goal.returns-then-begins_double
returns-then-begins_double c =
    sym (longest_two c.args.bytes.now (record { no_start = c.requires.no_name; no_digit = c.requires.no_number; no_comment = c.requires.no_comment }) (sym c.begins_triple.ensures ∙ c.if-begins_triple.false)
    (sym c.begins_double.ensures ∙ c.if-begins_double.true))

pub returns-then-begins_single : goal.returns-then-begins_single
returns-then-begins_single c =
    sym (longest_one c.args.bytes.now (record { no_start = c.requires.no_name; no_digit = c.requires.no_number; no_comment = c.requires.no_comment }) (sym c.begins_triple.ensures ∙ c.if-begins_triple.false)
    (sym c.begins_double.ensures ∙ c.if-begins_double.false) (sym c.begins_single.ensures ∙ c.if-begins_single.true))

pub returns-else-begins_single : goal.returns-else-begins_single
returns-else-begins_single c =
    sym (longest_none c.args.bytes.now (record { no_start = c.requires.no_name; no_digit = c.requires.no_number; no_comment = c.requires.no_comment }) (sym c.begins_triple.ensures ∙ c.if-begins_triple.false)
    (sym c.begins_double.ensures ∙ c.if-begins_double.false) (sym c.begins_single.ensures ∙ c.if-begins_single.false))
