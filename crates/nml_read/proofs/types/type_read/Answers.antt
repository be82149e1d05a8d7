-- No other symbol is one.
use Rattle.std.proofs.Common.{◌∷◌, ◌∙◌, ap, sym, refl}
use Rattle.std.specs.Option.{option_map}
use Rattle.nml_read.specs.SeenWords.{seen_kind}
use Rattle.readings.proofs.Fronts.{comes_stuck}
use Rattle.readings.proofs.Saying.{none_among}
use Rattle.nml_grammar.specs.ReadingItems as items
use Rattle.readings.specs.declared.sign.Sign.TheVariants as lent
use Rattle.nml_read.proofs.types.type_read.Goals as goal

pub returns-in-Number-clause-says : goal.returns-in-Number-clause-says
returns-in-Number-clause-says c =
    comes_stuck items.type_read c.args.signs.now c.in-Some.rest.now (lent.Number c.in-Number.field-0 c.in-Number.field-1) (c.in-Some.ensures.cases.0 ∙ ap (λ x. x ∷ c.in-Some.rest.now) c.in-Number.is) (λ n t. refl)

pub returns-in-Quoted-clause-says : goal.returns-in-Quoted-clause-says
returns-in-Quoted-clause-says c =
    comes_stuck items.type_read c.args.signs.now c.in-Some.rest.now (lent.Quoted c.in-Quoted.field-0 c.in-Quoted.field-1) (c.in-Some.ensures.cases.0 ∙ ap (λ x. x ∷ c.in-Some.rest.now) c.in-Quoted.is) (λ n t. refl)

pub returns-in-None-clause-says : goal.returns-in-None-clause-says
returns-in-None-clause-says c =
    comes_stuck items.type_read c.args.signs.now c.in-Some.rest.now (lent.Fixed c.in-Fixed.at c.in-Fixed.text) (c.in-Some.ensures.cases.0 ∙ ap (λ x. x ∷ c.in-Some.rest.now) c.in-Fixed.is)
    (λ n t. none_among items.kinds items.behind_kind c.in-Fixed.text.now (sym c.kind_of.ensures ∙ ap (option_map seen_kind) c.in-None.is) n c.in-Fixed.at t)
