-- The reading of rules behind their words keeps the law.
use Rattle.std.proofs.Common.{◌≡◌, ◌⊎◌, inl, inr, ℕ, List, [], ◌∷◌, ◌++◌, Option, Some, None, refl, ap, sym, ◌∙◌, subst, append_assoc}
use Rattle.std.specs.Prelude.{codes, flat_map}
use Rattle.nml_tree.specs.declared.names.Name.{Name}
use Rattle.nml_tree.specs.declared.expression.Expr.{Expr}
use Rattle.nml_tree.specs.declared.attributes.Attrs.{Attrs}
use Rattle.nml_tree.specs.declared.tree.Pars.{Pars}
use Rattle.nml_tree.specs.declared.tree.RuleWord.{RuleWord}
use Rattle.nml_tree.specs.declared.tree.Item.{Item}
use Rattle.readings.specs.Symbol.{Symbol, fixed, beyond}
use Rattle.nml_tree.specs.Formula.{formula}
use Rattle.nml_tree.specs.Spell.{name_spelling, formula_spelling}
use Rattle.nml_tree.specs.SpellItems.{attrs_spelling, pars_spelling, further_name_spelling}
use Rattle.readings.specs.Reading.{behind}
use Rattle.readings.specs.Readings.{Reading, ◌>>>◌, sign, further}
use Rattle.nml_grammar.specs.Words.{name}
use Rattle.nml_grammar.specs.ReadingItems.{attrs, pars, or_rule, op_rule, value, mode_rule, rule_from, rule}
use Rattle.readings.proofs.Symbols.{some_is, none_is_none}
use Rattle.nml_grammar.proofs.Flat.{join5}
use Rattle.readings.specs.Lawful.{IsReading, Any, IsMade}
use Rattle.readings.proofs.Combining.{sign_law, then_law, then_any, then_free, made_law, picked, Behind, told_law}
use Rattle.readings.proofs.CombiningWords.{made_front}
use Rattle.nml_grammar.proofs.LawfulWords.{name_law}
use Rattle.readings.proofs.CombiningMarks.{by_mark_law}
use Rattle.readings.proofs.CombiningLists.{further_free}
use Rattle.nml_grammar.proofs.LawfulTypes.{pars_ends, pars_law}
use Rattle.nml_grammar.proofs.LawfulActions.{IsValue, value_law, attrs_good, attrs_law}
use Rattle.nml_grammar.proofs.LawfulParts.{item_ends, item_tail}
use Rattle.nml_tree.specs.declared.tree.RuleWord.TheVariants as rule_words
use Rattle.nml_tree.specs.declared.tree.Item.TheVariants as items

-- ---- rules with parameters

-- an item's symbols behind the first and the name
abbrev pub item_inside : Item → List Symbol
item_inside y = beyond (item_tail y)

-- the closing parenthesis is next
closed : (ps : Option Pars) (q : ℕ) (s : List Symbol) → pars_ends ps (Symbol.Fixed q (codes ")") ∷ s)
closed None q s = ((q, s), refl)
closed (Some ps) q s = refl

-- what stands behind the name of an operation
abbrev pub Operated : Type 0
Operated = ℕ × (Option Pars × (ℕ × Attrs))

-- the operation that it makes
abbrev pub op_of : ℕ → Name → Operated → Item
op_of at n x = items.OpRule (record { op = at; name = n; opening = x.0; pars = x.1.0; closing = x.1.1.0; attrs = x.1.1.1 })

-- its attributes may be read
abbrev pub op_good : Operated → Type 0
op_good x = attrs_good x.1.1.1

-- it is read lawfully
pub op_law : (at : ℕ) (n : Name) → IsReading item_inside (IsMade op_good (op_of at n)) item_ends (op_rule at n)
op_law at n =
    made_law (op_of at n) (λ x. fixed x.0 (codes "(") ++ (pars_spelling x.1.0 ++ (fixed x.1.1.0 (codes ")") ++ attrs_spelling x.1.1.1))) op_good
    (sign (codes "(") >>> (pars >>> (sign (codes ")") >>> attrs))) item_inside item_ends
    (λ x. ap (λ u. Symbol.Fixed x.0 (codes "(") ∷ u) (append_assoc (pars_spelling x.1.0) (fixed x.1.1.0 (codes ")")) (attrs_spelling x.1.1.1)))
    (then_free _ _ _ _ _ _ (sign_law (codes "("))
    (then_any _ _ _ _ _ _ _ pars_law (then_free _ _ _ _ _ _ (sign_law (codes ")")) attrs_law) (λ ps y r e. closed ps y.0 (attrs_spelling y.1 ++ r))))

-- what stands behind the name of a mode
abbrev pub Moded : Type 0
Moded = ℕ × (Option Pars × (ℕ × (ℕ × (Expr × Attrs))))

-- the mode that it makes
abbrev pub mode_of : ℕ → Name → Moded → Item
mode_of at n x = items.ModeRule (record {
  mode = at;
  name = n;
  opening = x.0;
  pars = x.1.0;
  closing = x.1.1.0;
  equals = x.1.1.1.0;
  value = x.1.1.1.1.0;
  attrs = x.1.1.1.1.1;
})

-- its value and its attributes may be read
abbrev pub mode_good : Moded → Type 0
mode_good x = IsValue x.1.1.1.1.0 × attrs_good x.1.1.1.1.1

-- its symbols
abbrev moded : Moded → List Symbol
moded x = fixed x.0 (codes "(") ++ (pars_spelling x.1.0 ++
    (fixed x.1.1.0 (codes ")") ++ (fixed x.1.1.1.0 (codes "=") ++ (formula_spelling (formula x.1.1.1.1.0) ++ attrs_spelling x.1.1.1.1.1))))

-- it is read lawfully
pub mode_law : (at : ℕ) (n : Name) → IsReading item_inside (IsMade mode_good (mode_of at n)) item_ends (mode_rule at n)
mode_law at n =
    made_law (mode_of at n) moded mode_good (sign (codes "(") >>> (pars >>> (sign (codes ")") >>> (sign (codes "=") >>> (value >>> attrs))))) item_inside item_ends
    (λ x. ap (λ u. Symbol.Fixed x.0 (codes "(") ∷ u)
    (join5 (pars_spelling x.1.0) (fixed x.1.1.0 (codes ")")) (fixed x.1.1.1.0 (codes "=")) (formula_spelling (formula x.1.1.1.1.0)) (attrs_spelling x.1.1.1.1.1)))
    (then_free _ _ _ _ _ _ (sign_law (codes "("))
    (then_any _ _ _ _ _ _ _ pars_law (then_free _ _ _ _ _ _ (sign_law (codes ")")) (then_free _ _ _ _ _ _ (sign_law (codes "="))
    (then_law _ _ _ _ _ _ _ _ value_law attrs_law (λ x y r g h e. record { stops = refl; no_index = λ _. refl }))))
    (λ ps y r e. closed ps y.0 ((fixed y.1.0 (codes "=") ++ (formula_spelling (formula y.1.1.0) ++ attrs_spelling y.1.1.1)) ++ r))))

-- ---- rules

-- what stands behind `=`
abbrev pub Alternatives : Type 0
Alternatives = Name × List (ℕ × Name)

-- the rule that it makes
abbrev pub or_of : RuleWord → Name → ℕ → Alternatives → Item
or_of word n eq x = items.OrRule (record { word = word; name = n; equals = eq; first = x.0; rest = x.1 })

-- the rule's symbols behind its word
or_spelled : (word : RuleWord) (n : Name) (eq : ℕ) (x : Alternatives) → item_tail (or_of word n eq x) ≡ Symbol.Named n.at n.text ∷ Symbol.Fixed eq (codes "=") ∷
    (name_spelling x.0 ++ flat_map further_name_spelling x.1)
or_spelled (rule_words.Op at) n eq x = refl
or_spelled (rule_words.Mode at) n eq x = refl

-- alternatives are read lawfully
or_law : (word : RuleWord) (n : Name) (eq : ℕ) → IsReading (λ y. beyond (item_inside y)) (IsMade Any (or_of word n eq)) item_ends (or_rule word n eq)
or_law word n eq =
    made_law (or_of word n eq) (λ x. name_spelling x.0 ++ flat_map further_name_spelling x.1) Any (name >>> further (codes "|") name)
    (λ y. beyond (item_inside y)) item_ends (λ x. ap (λ u. beyond (beyond u)) (or_spelled word n eq x))
    (then_free _ _ _ _ _ _ name_law (further_free (codes "|") name_spelling name further_name_spelling (λ at x. refl) name_law))

-- the rules of a word: those with parameters and the alternatives, each behind its name
module _ (word : RuleWord) (composed : Name → Reading Item) (Composed : Name → Item → Type 0)
    (composed_law : (n : Name) → IsReading item_inside (Composed n) item_ends (composed n))
    (named : (n : Name) (y : Item) → Composed n y → item_tail y ≡ Symbol.Named n.at n.text ∷ item_inside y) (no_equals : (n : Name) (y : Item) (r : List Symbol)
    → Composed n y → behind (codes "=") (item_inside y ++ r) ≡ None)
  where
    -- a rule of this name
    abbrev pub OfRule : Name → Item → Type 0
    OfRule n y = Composed n y ⊎ ((eq : ℕ) × IsMade Any (or_of word n eq) y)

    -- the reading behind the name
    abbrev rule_behind : Name → Reading Item
    rule_behind x n ss = rule_from word (composed x) x n ss (behind (codes "=") ss)

    -- it is lawful
    rule_behind_law : (x : Name) → IsReading item_inside (OfRule x) item_ends (rule_behind x)
    rule_behind_law x =
        by_mark_law (codes "=") (rule_behind x) (composed x) (or_rule word x) (λ n ss i. ap (rule_from word (composed x) x n ss) i)
        (λ n ss at rest i. ap (rule_from word (composed x) x n ss) i)
        item_inside (OfRule x) item_ends (Composed x) item_ends (λ eq y. IsMade Any (or_of word x eq) y) (composed_law x)
        (λ eq. record {
          reading = or_law word x eq;
          front = made_front Any (or_of word x eq) item_inside (Symbol.Fixed eq (codes "=")) (λ z. let e = ap beyond (or_spelled word x eq z) in e
              ∙ ap (λ u. Symbol.Fixed eq (codes "=") ∷ beyond u) (sym e));
          to = λ y h. inr (eq, h);
        })
        (λ y h. inl h) (λ y r h e i. e) sorted
      where
        sorted : (y : Item) → OfRule x y → (Composed x y × ((r : List Symbol) → item_ends y r → item_ends y r × (behind (codes "=") (item_inside y ++ r) ≡ None)))
            ⊎ ((eq : ℕ) × IsMade Any (or_of word x eq) y)
        sorted y (inl h) = inl (h, λ r e. (e, no_equals x y r h))
        sorted y (inr h) = inr h

    -- a rule has its name behind its word
    rule_front : (x : Name) (y : Item) → OfRule x y → item_tail y ≡ Symbol.Named x.at x.text ∷ item_inside y
    rule_front x y (inl h) = named x y h
    rule_front x y (inr h) = made_front Any (or_of word x h.0) item_tail (Symbol.Named x.at x.text) (λ z. let e = or_spelled word x h.0 z in e
        ∙ ap (λ u. Symbol.Named x.at x.text ∷ beyond u) (sym e)) y h.1

    -- only a name is taken
    abbrev rule_pick : Symbol → Option (Reading Item)
    rule_pick (Symbol.Fixed at text) = None
    rule_pick (Symbol.Named at text) = Some (rule_behind (record { at = at; text = text }))
    rule_pick (Symbol.Number at value) = None
    rule_pick (Symbol.Quoted at text) = None

    -- what is read of it
    abbrev OfNamed : Symbol → Item → Type 0
    OfNamed (Symbol.Fixed at text) y = ⊥
    OfNamed (Symbol.Named at text) y = OfRule (record { at = at; text = text }) y
    OfNamed (Symbol.Number at value) y = ⊥
    OfNamed (Symbol.Quoted at text) y = ⊥

    -- a rule of some name
    abbrev pub IsRule : Item → Type 0
    IsRule y = (x : Name) × OfRule x y

    -- the reading takes the name first
    rule_goes : (n : ℕ) (s : Symbol) (ss : List Symbol) → rule word composed n (s ∷ ss) ≡ picked n s ss (rule_pick s)
    rule_goes n (Symbol.Fixed at text) ss = refl
    rule_goes n (Symbol.Named at text) ss = refl
    rule_goes n (Symbol.Number at value) ss = refl
    rule_goes n (Symbol.Quoted at text) ss = refl

    -- and behind it is lawful
    rule_each : (s : Symbol) (next : Reading Item) → rule_pick s ≡ Some next → Behind item_tail IsRule item_ends (OfNamed s) s next
    rule_each (Symbol.Fixed at text) next e = none_is_none next e
    rule_each (Symbol.Named at text) next e =
        let x : Name = record { at = at; text = text } in
        subst (Behind item_tail IsRule item_ends (OfRule x) (Symbol.Named at text)) (some_is (rule_behind x) next e)
        (record { reading = rule_behind_law x; front = rule_front x; to = λ y h. (x, h) })
    rule_each (Symbol.Number at value) next e = none_is_none next e
    rule_each (Symbol.Quoted at text) next e = none_is_none next e

    -- rules are read lawfully
    pub rule_law : IsReading item_tail IsRule item_ends (rule word composed)
    rule_law =
        let x : Name = record { at = 0; text = [] } in
        told_law item_tail IsRule item_ends (rule word composed) rule_pick OfNamed (λ n. refl) rule_goes rule_each
        (λ y h. (Symbol.Named h.0.at h.0.text, rule_behind h.0, refl, h.1)) (composed_law x).thing (x, inl (composed_law x).fits)
