-- No other symbol is one.
use Rattle.std.proofs.Common.{◌∷◌, ◌∙◌, ap, refl}
use Rattle.readings.proofs.Fronts.{comes_stuck}
use Rattle.nml_grammar.specs.Words as spec
use Rattle.readings.specs.declared.sign.Sign.TheVariants as lent
use Rattle.nml_statement.proofs.front.size.Goals as goal

pub returns-in-Fixed-clause-says : goal.returns-in-Fixed-clause-says
returns-in-Fixed-clause-says c =
    comes_stuck spec.size c.args.signs.now c.in-Some.rest.now (lent.Fixed c.in-Fixed.field-0 c.in-Fixed.field-1) (c.in-Some.ensures.cases.0 ∙ ap (λ x. x ∷ c.in-Some.rest.now) c.in-Fixed.is) (λ n t. refl)

pub returns-in-Quoted-clause-says : goal.returns-in-Quoted-clause-says
returns-in-Quoted-clause-says c =
    comes_stuck spec.size c.args.signs.now c.in-Some.rest.now (lent.Quoted c.in-Quoted.field-0 c.in-Quoted.field-1) (c.in-Some.ensures.cases.0 ∙ ap (λ x. x ∷ c.in-Some.rest.now) c.in-Quoted.is) (λ n t. refl)
