-- No other symbol is one.
use Rattle.std.proofs.Common.{◌∷◌, ◌∙◌, ap, sym, refl}
use Rattle.readings.proofs.Fronts.{comes_stuck}
use Rattle.readings.specs.Readings.{given}
use Rattle.readings.proofs.Saying.{none_among, nothing}
use Rattle.nml_grammar.specs.ReadingItems as items
use Rattle.readings.specs.declared.sign.Sign.TheVariants as lent
use Rattle.nml_read.proofs.attributes.attribute.Goals as goal

pub returns-in-Named-clause-says : goal.returns-in-Named-clause-says
returns-in-Named-clause-says c =
    comes_stuck items.attribute c.args.signs.now c.in-Some.rest.now (lent.Named c.in-Named.field-0 c.in-Named.field-1) (c.in-Some.ensures.cases.0 ∙ ap (λ x. x ∷ c.in-Some.rest.now) c.in-Named.is) (λ n t. refl)

pub returns-in-Number-clause-says : goal.returns-in-Number-clause-says
returns-in-Number-clause-says c =
    comes_stuck items.attribute c.args.signs.now c.in-Some.rest.now (lent.Number c.in-Number.field-0 c.in-Number.field-1) (c.in-Some.ensures.cases.0 ∙ ap (λ x. x ∷ c.in-Some.rest.now) c.in-Number.is) (λ n t. refl)

pub returns-in-Quoted-clause-says : goal.returns-in-Quoted-clause-says
returns-in-Quoted-clause-says c =
    comes_stuck items.attribute c.args.signs.now c.in-Some.rest.now (lent.Quoted c.in-Quoted.field-0 c.in-Quoted.field-1) (c.in-Some.ensures.cases.0 ∙ ap (λ x. x ∷ c.in-Some.rest.now) c.in-Quoted.is) (λ n t. refl)

pub returns-in-None-clause-says : goal.returns-in-None-clause-says
returns-in-None-clause-says c =
    comes_stuck items.attribute c.args.signs.now c.in-Some.rest.now (lent.Fixed c.in-Fixed.at c.in-Fixed.text) (c.in-Some.ensures.cases.0 ∙ ap (λ x. x ∷ c.in-Some.rest.now) c.in-Fixed.is)
    (λ n t. none_among items.attribute_words (λ make at. given (make at)) c.in-Fixed.text.now (nothing (λ make. make c.in-Fixed.at) _ (sym c.attribute_at.ensures ∙ c.in-None.is)) n c.in-Fixed.at t)
