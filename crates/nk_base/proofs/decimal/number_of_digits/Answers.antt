use Rattle.std.proofs.Common.{◌-◌, ◌^◌, ◌∙◌, ap, cond, Some, None}
use Rattle.std.specs.Str.Parse.{digits_value}
use Rattle.nk_base.proofs.DigitsValue.{decimal_digits, most_is_below}
use Rattle.nk_base.proofs.decimal.number_of_digits.Goals as goal

pub number_up_to-requires-clause-digits : goal.number_up_to-requires-clause-digits
number_up_to-requires-clause-digits c = decimal_digits c.args.digits.now c.requires

pub returns : goal.returns
returns c =
    c.number_up_to.ensures
    ∙ ap (λ b. cond b (Some (digits_value 10 c.args.digits.now)) None) (most_is_below (digits_value 10 c.args.digits.now) (2 ^ 128 - 1))
