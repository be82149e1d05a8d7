-- No other symbol is one.
use Rattle.std.proofs.Common.{◌∷◌, ◌∙◌, ap, refl}
use Rattle.readings.proofs.Fronts.{comes_stuck}
use Rattle.nml_grammar.specs.Words as spec
use Rattle.readings.specs.declared.sign.Sign.TheVariants as lent
use Rattle.nml_statement.proofs.front.string.Goals as goal

pub returns-in-Fixed-clause-says : goal.returns-in-Fixed-clause-says
returns-in-Fixed-clause-says c =
    comes_stuck spec.string c.args.signs.now c.in-Some.rest.now (lent.Fixed c.in-Fixed.field-0 c.in-Fixed.field-1) (c.in-Some.ensures.cases.0 ∙ ap (λ x. x ∷ c.in-Some.rest.now) c.in-Fixed.is) (λ n t. refl)

pub returns-in-Named-clause-says : goal.returns-in-Named-clause-says
returns-in-Named-clause-says c =
    comes_stuck spec.string c.args.signs.now c.in-Some.rest.now (lent.Named c.in-Named.field-0 c.in-Named.field-1) (c.in-Some.ensures.cases.0 ∙ ap (λ x. x ∷ c.in-Some.rest.now) c.in-Named.is) (λ n t. refl)

pub returns-in-Number-clause-says : goal.returns-in-Number-clause-says
returns-in-Number-clause-says c =
    comes_stuck spec.string c.args.signs.now c.in-Some.rest.now (lent.Number c.in-Number.field-0 c.in-Number.field-1) (c.in-Some.ensures.cases.0 ∙ ap (λ x. x ∷ c.in-Some.rest.now) c.in-Number.is) (λ n t. refl)
