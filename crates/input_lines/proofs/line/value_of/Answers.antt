use Rattle.std.proofs.Common.{◌≡◌, ◌^◌, ◌<◌, ◌∙◌, sym, Some, None, arith}
use Rattle.std.specs.Str.Parse.{digits_value}
use Rattle.std.proofs.lemmas.Bool.{cond_below}
use Rattle.input_lines.proofs.Fronts.{value_below}
use Rattle.input_lines.proofs.line.value_of.Goals as goal

pub returns-in-None-clause-value : goal.returns-in-None-clause-value
returns-in-None-clause-value c =
    let v = digits_value 10 c.args.digits.now in
    let small : v < 10 ^ 19 = value_below c.args.digits.now 19 c.requires.digits c.requires.short in
    let e = c.number_of_digits.ensures ∙ sym (cond_below v (2 ^ 128) (Some v) None (omega arith)) in
    absurd (cc (e, c.in-None.is))

pub returns-in-Some-clause-small : goal.returns-in-Some-clause-small
returns-in-Some-clause-small c =
    let v = digits_value 10 c.args.digits.now in
    let small : v < 10 ^ 19 = value_below c.args.digits.now 19 c.requires.digits c.requires.short in
    let e = c.number_of_digits.ensures ∙ sym (cond_below v (2 ^ 128) (Some v) None (omega arith)) in
    let is : c.in-Some.n ≡ v = cc (e, c.in-Some.is) in
    omega (arith, is, small)
