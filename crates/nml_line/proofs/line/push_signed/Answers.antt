use Rattle.std.specs.Prelude.{FitsSigned}
use Rattle.std.specs.Int.{w128}
use Rattle.std.proofs.Common.{rules, ◌∙◌, ap, ◌∷◌, [], ◌++◌, refl}
use Rattle.std.proofs.lemmas.Int.{to_z-of_z}
use Rattle.nml_line.proofs.LineSteps.{minus_pushed, sign_pushed, behind_short, few_digits, are_digits, no_digit, some_digit}
use Rattle.nml_line.proofs.line.push_signed.Goals as goal
use Rattle.nml_shape.specs.declared.shape.Piece.TheVariants as piece

pub returns-then-is_empty : goal.returns-then-is_empty
returns-then-is_empty c =
    sign_pushed _ _ _ _ _ _ c.requires.line c.requires.short c.digits_len.ensures.exact c.split_at.ensures.front (no_digit _ c.if-is_empty.ensures) c.in_ok-push.ensures.items

pub negative-requires-clause-digits : goal.negative-requires-clause-digits
negative-requires-clause-digits c = are_digits _ _ _ c.digits_len.ensures.exact c.split_at.ensures.front

pub negative-requires-clause-short : goal.negative-requires-clause-short
negative-requires-clause-short c = few_digits _ _ _ (behind_short _ _ c.requires.line c.requires.short) c.digits_len.ensures.exact c.split_at.ensures.front

pub returns : goal.returns
returns c =
    let fit : FitsSigned w128 c.negative.result = search rules in
    minus_pushed _ 45 _ _ _ _ _ _ c.requires.line c.requires.short refl c.digits_len.ensures.exact
    (some_digit _ _ _ c.digits_len.ensures.exact c.split_at.ensures.front c.if-is_empty.ensures) c.split_at.ensures.front c.split_at.ensures.back
    (c.in_ok-push-2.ensures.items ∙ ap (λ z. c.args.tokens.now.items ++ piece.Number z ∷ []) (to_z-of_z w128 c.negative.result fit ∙ c.negative.ensures))
