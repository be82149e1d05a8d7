use Rattle.std.specs.Prelude.{FitsSigned}
use Rattle.std.specs.Int.{w128}
use Rattle.std.proofs.lemmas.Int.{to_z-of_z}
use Rattle.std.proofs.Common.{rules, ◌∙◌, sym, ap, ◌∷◌, [], ◌++◌}
use Rattle.nml_line.proofs.LineSteps.{word_pushed, number_pushed, mark_pushed, few_digits, are_digits, other_sign}
use Rattle.nml_line.proofs.line.push_token.Goals as goal
use Rattle.nml_shape.specs.declared.shape.Piece.TheVariants as piece

pub returns-then-is_name_start : goal.returns-then-is_name_start
returns-then-is_name_start c =
    word_pushed _ _ _ _ _ _ _ _ c.requires.line c.requires.short (sym c.is_name_start.ensures ∙ c.if-is_name_start.true) c.word_len.ensures.exact c.split_at.ensures.front c.split_at.ensures.back
    (c.in_ok-push.ensures.items ∙ ap (λ w. c.args.tokens.now.items ++ piece.Word w ∷ []) c.in_ok-from_bytes.ensures)

pub number-requires-clause-digits : goal.number-requires-clause-digits
number-requires-clause-digits c = are_digits _ _ _ c.digits_len.ensures.exact c.split_at-then-is_ascii_digit.ensures.front

pub number-requires-clause-short : goal.number-requires-clause-short
number-requires-clause-short c = few_digits _ _ _ c.requires.short c.digits_len.ensures.exact c.split_at-then-is_ascii_digit.ensures.front

pub returns-then-is_ascii_digit : goal.returns-then-is_ascii_digit
returns-then-is_ascii_digit c =
    let fit : FitsSigned w128 c.number.result = search rules in
    number_pushed _ _ _ _ _ _ _ _ c.requires.line c.requires.short (sym c.if-is_ascii_digit.ensures.value) c.digits_len.ensures.exact c.split_at-then-is_ascii_digit.ensures.front c.split_at-then-is_ascii_digit.ensures.back
    (c.in_ok-push-2.ensures.items ∙ ap (λ z. c.args.tokens.now.items ++ piece.Number z ∷ []) (to_z-of_z w128 c.number.result fit ∙ c.number.ensures))

pub returns : goal.returns
returns c =
    mark_pushed _ _ _ _ _ c.requires.line c.requires.short (sym c.is_name_start.ensures ∙ c.if-is_name_start.false) (sym c.if-is_ascii_digit.ensures.value) (other_sign _ c.args.behind.now c.if-c-eq45.false) c.in_ok-push_mark.ensures
