-- No other symbol is one.
use Rattle.std.proofs.Common.{◌∷◌, ◌∙◌, ap, refl}
use Rattle.readings.proofs.Fronts.{comes_stuck}
use Rattle.c_grammar.specs.Words as spec
use Rattle.readings.specs.declared.sign.Sign.TheVariants as lent
use Rattle.c_statement.proofs.front.name.Goals as goal

pub returns-in-Fixed-clause-says : goal.returns-in-Fixed-clause-says
returns-in-Fixed-clause-says c =
    comes_stuck spec.name c.args.signs.now c.in-Some.rest.now (lent.Fixed c.in-Fixed.field-0 c.in-Fixed.field-1) (c.in-Some.ensures.cases.0 ∙ ap (λ x. x ∷ c.in-Some.rest.now) c.in-Fixed.is) (λ n t. refl)

pub returns-in-Number-clause-says : goal.returns-in-Number-clause-says
returns-in-Number-clause-says c =
    comes_stuck spec.name c.args.signs.now c.in-Some.rest.now (lent.Number c.in-Number.field-0 c.in-Number.field-1) (c.in-Some.ensures.cases.0 ∙ ap (λ x. x ∷ c.in-Some.rest.now) c.in-Number.is) (λ n t. refl)

pub returns-in-Quoted-clause-says : goal.returns-in-Quoted-clause-says
returns-in-Quoted-clause-says c =
    comes_stuck spec.name c.args.signs.now c.in-Some.rest.now (lent.Quoted c.in-Quoted.field-0 c.in-Quoted.field-1) (c.in-Some.ensures.cases.0 ∙ ap (λ x. x ∷ c.in-Some.rest.now) c.in-Quoted.is) (λ n t. refl)
