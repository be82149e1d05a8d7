-- A step that overflows or comes to more than the limit has outgrown it.
use Rattle.std.proofs.Common.{◌≡◌, ◌∙◌, ap, ◌+◌, ◌*◌, get_or, arith}
use Rattle.std.specs.Char.{digit_value}
use Rattle.nk_base.proofs.DigitsValue.{outgrown, whole, one_more}
use Rattle.nk_base.proofs.decimal.number_up_to.Goals as goal

pub returns-in_err-checked_mul : goal.returns-in_err-checked_mul
returns-in_err-checked_mul c =
    let times = ap (λ r. c.loop-digit.value * r) c.from-in-loop-digit.ensures in
    c.from_residual-in_err-checked_mul.ensures
    ∙ outgrown c.args.most c.args.radix c.args.digits.now c.loop-digit.digit-index c.loop-digit.value (omega arith) (omega arith) c.loop-digit.invariant.0 (omega (arith, c.in_err-checked_mul.ensures))

pub returns-in_err-value : goal.returns-in_err-value
returns-in_err-value c =
    let times = ap (λ r. c.loop-digit.value * r) c.from-in-loop-digit.ensures in
    let digit = c.in_ok-digit.ensures.value.1 ∙ ap digit_value c.from.ensures in
    c.from_residual-in_err-value.ensures
    ∙ outgrown c.args.most c.args.radix c.args.digits.now c.loop-digit.digit-index c.loop-digit.value (omega arith) (omega arith) c.loop-digit.invariant.0 (omega (arith, c.in_err-value.ensures, c.in_ok-checked_mul.ensures))

pub returns-then-value-most : goal.returns-then-value-most
returns-then-value-most c =
    let times = ap (λ r. c.loop-digit.value * r) c.from-in-loop-digit.ensures in
    let digit = c.in_ok-digit.ensures.value.1 ∙ ap digit_value c.from.ensures in
    outgrown c.args.most c.args.radix c.args.digits.now c.loop-digit.digit-index c.loop-digit.value (omega arith) (omega arith) c.loop-digit.invariant.0 (omega (arith, c.in_ok-value.ensures, c.in_ok-checked_mul.ensures))

pub loop-digit-preserved : goal.loop-digit-preserved
loop-digit-preserved c =
    let times = ap (λ r. c.loop-digit.value * r) c.from-in-loop-digit.ensures in
    let digit = c.in_ok-digit.ensures.value.1 ∙ ap digit_value c.from.ensures in
    let sum : c.in_ok-value.value ≡ c.loop-digit.value * c.args.radix + digit_value (get_or c.args.digits.now c.loop-digit.digit-index 0) = omega (arith, c.in_ok-value.ensures, c.in_ok-checked_mul.ensures) in
    (sum ∙ one_more c.args.radix c.args.digits.now c.loop-digit.digit-index c.loop-digit.value (omega arith) c.loop-digit.invariant.0, omega arith)

pub returns : goal.returns
returns c = whole c.args.most c.args.radix c.args.digits.now c.loop-digit.digit-index c.loop-digit.value (omega arith) c.loop-digit.invariant.1 c.loop-digit.invariant.0
