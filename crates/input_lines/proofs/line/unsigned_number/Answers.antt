use Rattle.std.specs.Char.{is_ascii_digit}
use Rattle.input_lines.proofs.Fronts.{longest}
use Rattle.input_lines.proofs.line.unsigned_number.Goals as goal

pub value_of-requires-clause-digits : goal.value_of-requires-clause-digits
value_of-requires-clause-digits c =
    rw (c.split_at.ensures.front, c.digits_len.ensures.exact) (longest is_ascii_digit c.args.text.now).passes
