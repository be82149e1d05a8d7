-- The reading of texts and their arguments keeps the law.
use Rattle.std.proofs.Common.{◌≡◌, ℕ, List, [], ◌∷◌, ◌++◌, Option, Some, None, option_map, refl, ap, subst}
use Rattle.std.specs.Prelude.{codes, flat_map}
use Rattle.nml_tree.specs.declared.names.Name.{Name}
use Rattle.nml_tree.specs.declared.names.Quoted.{Quoted}
use Rattle.nml_tree.specs.declared.attributes.Attribute.{Attribute}
use Rattle.nml_tree.specs.declared.attributes.Arg.{Arg}
use Rattle.nml_tree.specs.declared.attributes.Template.{Template}
use Rattle.readings.specs.Symbol.{Symbol, fixed, beyond}
use Rattle.nml_tree.specs.Spell.{name_spelling, string_spelling}
use Rattle.nml_tree.specs.SpellItems.{attribute_spelling, dotted_spelling, arg_spelling, template_spelling}
use Rattle.readings.specs.Reading.{looked_up}
use Rattle.readings.specs.Readings.{Reading, ◌>>>◌, given, sign, optional, further, worded_from}
use Rattle.nml_grammar.specs.Words.{name, string}
use Rattle.nml_grammar.specs.ReadingItems.{attribute, argument, format, part, template}
use Rattle.readings.proofs.Symbols.{some_is, none_is_none, Each}
use Rattle.readings.specs.Lawful.{IsReading, Any, Anywhere, IsMade, optional_spelling, optional_ends, list_ends}
use Rattle.readings.proofs.Combining.{then_any, then_free, sign_law, made_law, made_all, picked, Behind, told_law}
use Rattle.readings.proofs.CombiningWords.{made_front, OfWord, Word, word_each, worded_law, single_behind}
use Rattle.nml_grammar.proofs.LawfulWords.{name_law, string_law}
use Rattle.readings.proofs.CombiningMarks.{optional_free}
use Rattle.readings.proofs.CombiningLists.{last_where, further_law}
use Rattle.nml_tree.specs.declared.attributes.Attribute.TheVariants as attributes
use Rattle.nml_tree.specs.declared.attributes.Template.TheVariants as templates

-- ---- `syntax` and `image`

-- the words
abbrev attribute_words : List (List ℕ × (ℕ → Attribute))
attribute_words = (codes "syntax", attributes.Syntax) ∷ (codes "image", attributes.Image) ∷ []

-- nothing stands behind them
abbrev attribute_next : (ℕ → Attribute) → ℕ → Reading Attribute
attribute_next make at = given (make at)

-- the attribute of a word
abbrev OfAttribute : (ℕ → Attribute) → ℕ → Attribute → Type 0
OfAttribute make at y = y ≡ make at

-- attributes are read lawfully
pub attribute_law : IsReading attribute_spelling Any Anywhere attribute
attribute_law =
    worded_law attribute_spelling Any Anywhere attribute_words attribute_next OfAttribute (
      λ at. single_behind attribute_spelling Any (Symbol.Fixed at (codes "syntax")) (attributes.Syntax at) refl tt,
      (λ at. single_behind attribute_spelling Any (Symbol.Fixed at (codes "image")) (attributes.Image at) refl tt, tt),
    )
    from (attributes.Syntax 0) tt
  where
    from : (y : Attribute) → Any y → (text : List ℕ) × (k : ℕ → Attribute) × (at : ℕ) × (looked_up attribute_words text ≡ Some k) × OfAttribute k at y
    from (attributes.Syntax at) g = (codes "syntax", attributes.Syntax, at, refl, refl)
    from (attributes.Image at) g = (codes "image", attributes.Image, at, refl, refl)

-- ---- arguments

-- the symbols of an argument
abbrev argument_spelling : Arg → List Symbol
argument_spelling a = name_spelling a.name ++ dotted_spelling a.attribute

-- the argument of a name and what stands behind it
abbrev argument_of : Name × Option (ℕ × Attribute) → Arg
argument_of x = record { name = x.0; attribute = x.1 }

-- a name alone has no dot behind it
abbrev pub argument_ends : Arg → List Symbol → Type 0
argument_ends a r = optional_ends (codes ".") Anywhere a.attribute r

-- what stands behind the name
dotted_is : (o : Option (ℕ × Attribute)) → dotted_spelling o ≡ optional_spelling (codes ".") attribute_spelling o
dotted_is None = refl
dotted_is (Some (at, a)) = refl

-- arguments are read lawfully
pub argument_law : IsReading argument_spelling Any argument_ends argument
argument_law =
    made_all argument_of (λ x. name_spelling x.0 ++ optional_spelling (codes ".") attribute_spelling x.1) Any
    (name >>> optional (codes ".") attribute) argument_spelling Any argument_ends
    (λ x. ap (λ u. name_spelling x.0 ++ u) (dotted_is x.1)) (λ x h. tt) (λ y h. ((y.name, y.attribute), tt, refl))
    (then_free _ _ _ _ _ _ name_law (optional_free (codes ".") attribute_spelling Anywhere attribute attribute_law))

-- a comma and a parenthesis are no dot
before_comma : (o : Option (ℕ × Attribute)) (at : ℕ) (r : List Symbol) → optional_ends (codes ".") Anywhere o (Symbol.Fixed at (codes ",") ∷ r)
before_comma None at r = refl
before_comma (Some (p, a)) at r = tt

-- a closing parenthesis is no dot
before_close : (o : Option (ℕ × Attribute)) (at : ℕ) (r : List Symbol) → optional_ends (codes ".") Anywhere o (Symbol.Fixed at (codes ")") ∷ r)
before_close None at r = refl
before_close (Some (p, a)) at r = tt

-- further arguments are read lawfully
arguments_law : IsReading (flat_map arg_spelling) Any (list_ends (codes ",") argument_ends) (further (codes ",") argument)
arguments_law = further_law (codes ",") argument_spelling argument_ends argument arg_spelling (λ at x. refl) (λ x at r. before_comma x.attribute at r) argument_law

-- ---- texts

-- what stands behind `format`
abbrev Formatted : Type 0
Formatted = ℕ × (Quoted × (List (ℕ × Arg) × ℕ))

-- the text that it makes
abbrev format_of : ℕ → Formatted → Template
format_of at x = templates.Format at x.0 x.1.0 x.1.1.0 x.1.1.1

-- its symbols
abbrev formatted : Formatted → List Symbol
formatted x = fixed x.0 (codes "(") ++ (string_spelling x.1.0 ++ (flat_map arg_spelling x.1.1.0 ++ fixed x.1.1.1 (codes ")")))

-- the arguments and the parenthesis behind them
arguments_closed : IsReading (λ (x : List (ℕ × Arg) × ℕ). flat_map arg_spelling x.0 ++ fixed x.1 (codes ")")) Any Anywhere
    (further (codes ",") argument >>> sign (codes ")"))
arguments_closed =
    then_any (flat_map arg_spelling) (list_ends (codes ",") argument_ends) (further (codes ",") argument) (λ q. fixed q (codes ")")) Any Anywhere
    (sign (codes ")")) arguments_law (sign_law (codes ")"))
    (λ xs q r e. (refl, last_where argument_ends xs (Symbol.Fixed q (codes ")") ∷ r) (λ x. before_close x.attribute q r)))

-- all of it is read lawfully
formatted_law : IsReading formatted Any Anywhere (sign (codes "(") >>> (string >>> (further (codes ",") argument >>> sign (codes ")"))))
formatted_law = then_free _ _ _ _ _ _ (sign_law (codes "(")) (then_free _ _ _ _ _ _ string_law arguments_closed)

-- the word
abbrev format_words : List (List ℕ × (ℕ → Reading Template))
format_words = (codes "format", format) ∷ []

-- what is read behind it
abbrev format_next : (ℕ → Reading Template) → ℕ → Reading Template
format_next behind_format at = behind_format at

-- the texts of the word
abbrev OfFormat : (ℕ → Reading Template) → ℕ → Template → Type 0
OfFormat k at y = IsMade Any (format_of at) y

-- they are read lawfully
format_entries : Each (Word template_spelling Any Anywhere format_next OfFormat) format_words
format_entries = (
  λ at. record {
    reading = made_law (format_of at) formatted Any (sign (codes "(") >>> (string >>> (further (codes ",") argument >>> sign (codes ")"))))
        (λ y. beyond (template_spelling y)) Anywhere (λ x. refl) formatted_law;
    front = made_front Any (format_of at) template_spelling (Symbol.Fixed at (codes "format")) (λ x. refl);
    to = λ y h. tt;
  },
  tt,
)

-- the attribute of a part, behind its name
abbrev part_of : Name → ℕ × Attribute → Template
part_of n x = templates.Part n x.0 x.1

-- it is read lawfully
part_behind : (at : ℕ) (text : List ℕ) → Behind template_spelling Any Anywhere (IsMade Any (part_of (record { at = at; text = text }))) (Symbol.Named at text)
    (part (record { at = at; text = text }))
part_behind at text = record {
  reading = made_law (part_of (record { at = at; text = text })) (λ x. fixed x.0 (codes ".") ++ attribute_spelling x.1) Any (sign (codes ".") >>> attribute)
      (λ y. beyond (template_spelling y)) Anywhere (λ x. refl)
      (then_free _ _ _ _ _ _ (sign_law (codes ".")) attribute_law);
  front = made_front Any (part_of (record { at = at; text = text })) template_spelling (Symbol.Named at text) (λ x. refl);
  to = λ y h. tt;
}

-- what stands behind the first symbol
abbrev template_pick : Symbol → Option (Reading Template)
template_pick (Symbol.Fixed at text) = option_map (λ k. format_next k at) (looked_up format_words text)
template_pick (Symbol.Named at text) = Some (part (record { at = at; text = text }))
template_pick (Symbol.Number at value) = None
template_pick (Symbol.Quoted at text) = Some (given (templates.Plain (record { at = at; text = text })))

-- the texts of a first symbol
abbrev OfTemplate : Symbol → Template → Type 0
OfTemplate (Symbol.Fixed at text) y = OfWord OfFormat at (looked_up format_words text) y
OfTemplate (Symbol.Named at text) y = IsMade Any (part_of (record { at = at; text = text })) y
OfTemplate (Symbol.Number at value) y = ⊥
OfTemplate (Symbol.Quoted at text) y = y ≡ templates.Plain (record { at = at; text = text })

-- the reading goes by the first symbol
template_goes : (n : ℕ) (s : Symbol) (ss : List Symbol) → template n (s ∷ ss) ≡ picked n s ss (template_pick s)
template_goes n (Symbol.Fixed at text) ss = by (looked_up format_words text)
  where
    by : (o : Option (ℕ → Reading Template)) → worded_from format_next n (Symbol.Fixed at text ∷ ss) at ss o ≡ picked n (Symbol.Fixed at text) ss
        (option_map (λ k. format_next k at) o)
    by None = refl
    by (Some k) = refl
template_goes n (Symbol.Named at text) ss = refl
template_goes n (Symbol.Number at value) ss = refl
template_goes n (Symbol.Quoted at text) ss = refl

-- and behind it is lawful
template_each : (s : Symbol) (next : Reading Template) → template_pick s ≡ Some next → Behind template_spelling Any Anywhere (OfTemplate s) s next
template_each (Symbol.Fixed at text) next e = word_each template_spelling Any Anywhere format_words format_next OfFormat format_entries at text next e
template_each (Symbol.Named at text) next e =
    subst (Behind template_spelling Any Anywhere (OfTemplate (Symbol.Named at text)) (Symbol.Named at text))
    (some_is (part (record { at = at; text = text })) next e) (part_behind at text)
template_each (Symbol.Number at value) next e = none_is_none next e
template_each (Symbol.Quoted at text) next e =
    subst (Behind template_spelling Any Anywhere (OfTemplate (Symbol.Quoted at text)) (Symbol.Quoted at text))
    (some_is (given (templates.Plain (record { at = at; text = text }))) next e)
    (single_behind template_spelling Any (Symbol.Quoted at text) (templates.Plain (record { at = at; text = text })) refl tt)

-- each text is told by its first symbol
template_from : (y : Template) → Any y → (s : Symbol) × (next : Reading Template) × (template_pick s ≡ Some next) × OfTemplate s y
template_from (templates.Plain q) g = (Symbol.Quoted q.at q.text, given (templates.Plain q), refl, refl)
template_from (templates.Part n dot a) g = (Symbol.Named n.at n.text, part n, refl, ((dot, a), tt, refl))
template_from (templates.Format at p q args r) g = (Symbol.Fixed at (codes "format"), format at, refl, ((p, (q, (args, r))), tt, refl))

-- texts are read lawfully
pub template_law : IsReading template_spelling Any Anywhere template
template_law = told_law template_spelling Any Anywhere template template_pick OfTemplate (λ n. refl) template_goes template_each template_from
    (templates.Plain (record { at = 0; text = [] })) tt
