use Rattle.std.proofs.Common.{◌∙◌, rules, sym}
use Rattle.nml_texts.proofs.Pieces.{are_digits, percent_alone, percent_letter}
use Rattle.nml_texts.proofs.piece.directive.Goals as goal

pub returns-in-None-clause-piece : goal.returns-in-None-clause-piece
returns-in-None-clause-piece c = percent_alone _ _ _ c.digits_len.ensures.exact c.split_at.ensures.back c.in-None.ensures.cases

pub returns-in-Some-clause-piece : goal.returns-in-Some-clause-piece
returns-in-Some-clause-piece c = percent_letter _ _ _ _ _ _ c.digits_len.ensures.exact c.split_at.ensures.front c.split_at.ensures.back c.in-Some.ensures.cases.0

pub returns-in-Some-clause-digits : goal.returns-in-Some-clause-digits
returns-in-Some-clause-digits c = rw (c.split_at.ensures.front, c.digits_len.ensures.exact) (are_digits c.args.text.now)
