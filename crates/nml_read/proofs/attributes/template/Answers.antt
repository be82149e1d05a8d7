-- `format`, a name or a string, and no other symbol.
use Rattle.std.proofs.Common.{ℕ, List, ◌≡◌, ◌∷◌, ◌∙◌, ap, sym, refl, true, false, Some, [], if◌then◌else◌}
use Rattle.std.specs.Prelude.{codes}
use Rattle.nk_base.specs.Text.{text_eq}
use Rattle.readings.specs.Symbol.{Symbol}
use Rattle.readings.specs.Reading.{Stuck, looked_up}
use Rattle.readings.specs.Readings.{worded_from}
use Rattle.readings.proofs.Fronts.{comes_stuck, says_behind}
use Rattle.nml_grammar.specs.ReadingItems as items
use Rattle.readings.specs.declared.sign.Sign.TheVariants as lent
use Rattle.nml_read.proofs.attributes.template.Goals as goal

-- behind the word `format`
format_in_front : (text : List ℕ) (n at : ℕ) (t : List Symbol) → text_eq text (codes "format") ≡ true → items.template n (Symbol.Fixed at text ∷ t) ≡ items.format at n t
format_in_front text n at t e =
    ap (λ b. worded_from (λ behind_format at. behind_format at) n (Symbol.Fixed at text ∷ t) at t (if b then Some items.format else looked_up [] text)) e

-- another word
other_in_front : (text : List ℕ) (n at : ℕ) (t : List Symbol) → text_eq text (codes "format") ≡ false → items.template n (Symbol.Fixed at text ∷ t) ≡ Stuck (Symbol.Fixed at text ∷ t)
other_in_front text n at t e =
    ap (λ b. worded_from (λ behind_format at. behind_format at) n (Symbol.Fixed at text ∷ t) at t (if b then Some items.format else looked_up [] text)) e

pub returns-then-eq-clause-says : goal.returns-then-eq-clause-says
returns-then-eq-clause-says c =
    says_behind _ c.format.result items.template (items.format c.in-Fixed.at) c.args.signs.now c.in-Some.rest.now (lent.Fixed c.in-Fixed.at c.in-Fixed.text)
    (c.in-Some.ensures.cases.0 ∙ ap (λ x. x ∷ c.in-Some.rest.now) c.in-Fixed.is) (λ n t. format_in_front c.in-Fixed.text.now n c.in-Fixed.at t (ap (text_eq c.in-Fixed.text.now) (sym c.as_slice.ensures) ∙ sym c.eq.ensures ∙ c.if-eq.true)) c.format.ensures.says

pub returns-else-eq-clause-says : goal.returns-else-eq-clause-says
returns-else-eq-clause-says c =
    comes_stuck items.template c.args.signs.now c.in-Some.rest.now (lent.Fixed c.in-Fixed.at c.in-Fixed.text)
    (c.in-Some.ensures.cases.0 ∙ ap (λ x. x ∷ c.in-Some.rest.now) c.in-Fixed.is) (λ n t. other_in_front c.in-Fixed.text.now n c.in-Fixed.at t (ap (text_eq c.in-Fixed.text.now) (sym c.as_slice.ensures) ∙ sym c.eq.ensures ∙ c.if-eq.false))

pub returns-in-Number-clause-says : goal.returns-in-Number-clause-says
returns-in-Number-clause-says c =
    comes_stuck items.template c.args.signs.now c.in-Some.rest.now (lent.Number c.in-Number.field-0 c.in-Number.field-1) (c.in-Some.ensures.cases.0 ∙ ap (λ x. x ∷ c.in-Some.rest.now) c.in-Number.is) (λ n t. refl)
