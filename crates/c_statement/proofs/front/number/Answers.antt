-- No other symbol is one.
use Rattle.std.proofs.Common.{◌∷◌, ◌∙◌, ap, refl}
use Rattle.readings.proofs.Fronts.{comes_stuck}
use Rattle.c_grammar.specs.Words as spec
use Rattle.readings.specs.declared.sign.Sign.TheVariants as lent
use Rattle.c_statement.proofs.front.number.Goals as goal

pub returns-in-Fixed-clause-says : goal.returns-in-Fixed-clause-says
returns-in-Fixed-clause-says c =
    comes_stuck spec.number c.args.signs.now c.in-Some.rest.now (lent.Fixed c.in-Fixed.field-0 c.in-Fixed.field-1) (c.in-Some.ensures.cases.0 ∙ ap (λ x. x ∷ c.in-Some.rest.now) c.in-Fixed.is) (λ n t. refl)

pub returns-in-Named-clause-says : goal.returns-in-Named-clause-says
returns-in-Named-clause-says c =
    comes_stuck spec.number c.args.signs.now c.in-Some.rest.now (lent.Named c.in-Named.field-0 c.in-Named.field-1) (c.in-Some.ensures.cases.0 ∙ ap (λ x. x ∷ c.in-Some.rest.now) c.in-Named.is) (λ n t. refl)

pub returns-in-Quoted-clause-says : goal.returns-in-Quoted-clause-says
returns-in-Quoted-clause-says c =
    comes_stuck spec.number c.args.signs.now c.in-Some.rest.now (lent.Quoted c.in-Quoted.field-0 c.in-Quoted.field-1) (c.in-Some.ensures.cases.0 ∙ ap (λ x. x ∷ c.in-Some.rest.now) c.in-Quoted.is) (λ n t. refl)
