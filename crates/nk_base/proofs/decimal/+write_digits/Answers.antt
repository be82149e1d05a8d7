use Rattle.std.proofs.Common.{◌+◌, ◌%◌, ◌/◌, ◌∷◌, [], ◌++◌, ap, sym, ◌∙◌, arith, append_assoc, take}
use Rattle.std.specs.Fmt.{decimal}
use Rattle.std.proofs.lemmas.Fmt.{decimal_digit, decimal_step_wide}
use Rattle.std.proofs.lemmas.List.{take_more_set}
use Rattle.nk_base.proofs.Digits.{decimal_length, length_step}
use Rattle.nk_base.proofs.decimal.+write_digits.Goals as goal

pub bounds-buf-at : goal.bounds-buf-at
bounds-buf-at t c = omega (arith, decimal_length c.args.n c.requires.small, length_step c.args.n c.if-n-lt10.false c.requires.small)

pub returns-then-n-lt10-clause-text : goal.returns-then-n-lt10-clause-text
returns-then-n-lt10-clause-text t c =
    take_more_set c.args.buf.now c.args.from _ (omega arith) ∙ ap (λ l. take c.args.from c.args.buf.now ++ l) (sym (decimal_digit c.args.n c.if-n-lt10.true))

pub returns-else-n-lt10-clause-text : goal.returns-else-n-lt10-clause-text
returns-else-n-lt10-clause-text t c =
    take_more_set c.write_digits-at.new.buf c.write_digits-at.result _ (omega (arith, decimal_length c.args.n c.requires.small, length_step c.args.n c.if-n-lt10.false c.requires.small))
    ∙ ap (λ l. l ++ (48 + c.args.n % 10) ∷ []) c.write_digits-at.ensures.text
    ∙ append_assoc (take c.args.from c.args.buf.now) (decimal (c.args.n / 10)) ((48 + c.args.n % 10) ∷ [])
    ∙ ap (λ l. take c.args.from c.args.buf.now ++ l) (sym (decimal_step_wide c.args.n c.if-n-lt10.false (omega arith)))
