use Rattle.std.proofs.Common.{◌∙◌, sym, [], ◌∷◌, ◌++◌}
use Rattle.nml_upward.proofs.Pieces.{digit_step, letter_step}
use Rattle.nml_upward.proofs.piece.+directive_end.Goals as goal

pub returns-else-is_ascii_digit-clause-piece : goal.returns-else-is_ascii_digit-clause-piece
returns-else-is_ascii_digit-clause-piece t c = λ ds. (ds, c.in-Some.c.now, letter_step _ _ _ ds c.in-Some.ensures.cases.0 (sym c.if-is_ascii_digit.ensures.value))

pub returns-in-Some-directive_end-clause-piece : goal.returns-in-Some-directive_end-clause-piece
returns-in-Some-directive_end-clause-piece t c = λ ds.
    let e = c.in-Some-directive_end.ensures.piece (ds ++ c.in-Some.c.now ∷ []) in
    (e.0, e.1, digit_step _ _ _ ds c.in-Some.ensures.cases.0 (sym c.if-is_ascii_digit.ensures.value) ∙ e.2)
