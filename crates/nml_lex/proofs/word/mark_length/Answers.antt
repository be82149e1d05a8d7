-- Two bytes, one or none make the mark.
use Rattle.std.proofs.Common.{◌∙◌, sym}
use Rattle.nml_lex.proofs.Lengths.{IsOther, HasNoDouble, longest_single, longest_none, double_found, second_known, second_missing}
use Rattle.nml_lex.proofs.word.mark_length.Goals.{in_default-via-in-Some+else-is_double_mark, in_default-via-in_default}
use Rattle.nml_lex.proofs.word.mark_length.Goals as goal

pub returns-in-Some : goal.returns-in-Some
returns-in-Some c =
    let other : IsOther c.args.first = record { no_start = c.requires.no_name; no_digit = c.requires.no_number; no_quote = c.requires.no_string } in
    sym (double_found c.args.first c.in-Some.second.now c.args.behind.now other c.in-Some.ensures.value (sym c.is_double_mark.ensures ∙ c.if-is_double_mark.true))

pub returns-in_default : goal.returns-in_default
returns-in_default c =
    let other : IsOther c.args.first = record { no_start = c.requires.no_name; no_digit = c.requires.no_number; no_quote = c.requires.no_string } in
    let none : HasNoDouble c.args.first c.args.behind.now = elim c.in_default.branch [
      | in_default-via-in-Some+else-is_double_mark w ↦ second_known c.args.first w.in-Some.second.now c.args.behind.now w.in-Some.ensures.value (sym w.is_double_mark.ensures ∙ w.if-is_double_mark.false)
      | in_default-via-in_default w ↦ second_missing c.args.first c.args.behind.now w.in_default.ensures.value
    ] in
    sym (longest_single c.args.first c.args.behind.now other none (sym c.is_single_mark.ensures ∙ c.if-is_single_mark.true))

pub returns-in_default-2 : goal.returns-in_default-2
returns-in_default-2 c =
    let other : IsOther c.args.first = record { no_start = c.requires.no_name; no_digit = c.requires.no_number; no_quote = c.requires.no_string } in
    let none : HasNoDouble c.args.first c.args.behind.now = elim c.in_default.branch [
      | in_default-via-in-Some+else-is_double_mark w ↦ second_known c.args.first w.in-Some.second.now c.args.behind.now w.in-Some.ensures.value (sym w.is_double_mark.ensures ∙ w.if-is_double_mark.false)
      | in_default-via-in_default w ↦ second_missing c.args.first c.args.behind.now w.in_default.ensures.value
    ] in
    sym (longest_none c.args.first c.args.behind.now other none (sym c.is_single_mark.ensures ∙ c.if-is_single_mark.false))
