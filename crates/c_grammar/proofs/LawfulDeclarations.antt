-- Declarations of local variables are read lawfully.
use Rattle.std.proofs.Common.{◌≡◌, ◌⊎◌, inl, inr, ℕ, zero, suc, ◌≤◌, List, [], ◌∷◌, ◌++◌, Option, Some, None, refl, ap, sym, ◌∙◌, subst, arith, append_assoc}
use Rattle.std.specs.Prelude.{codes, flat_map}
use Rattle.c_tree.specs.declared.names.Name.{Name}
use Rattle.c_tree.specs.declared.names.Number.{Number}
use Rattle.c_tree.specs.declared.names.TypeWord.TheVariants as type_word
use Rattle.readings.specs.Symbol.{Symbol, fixed, beyond}
use Rattle.readings.specs.Reading.{behind}
use Rattle.readings.specs.Readings.{Reading, ◌>>>◌, given, sign}
use Rattle.readings.specs.Lawful.{IsReading, IsMade, Any, Anywhere}
use Rattle.readings.specs.Whole.{Goods}
use Rattle.readings.proofs.Symbols.{some_is, none_is_none}
use Rattle.readings.proofs.Combining.{sign_law, given_law, made_law, made_all, then_law, then_free, picked, Behind, told_law}
use Rattle.readings.proofs.CombiningWords.{made_front}
use Rattle.readings.proofs.CombiningMarks.{by_mark_law}
use Rattle.c_tree.specs.Formula.{Formula}
use Rattle.c_tree.specs.Statement.{Variable, Scalar, Initial, Array, Declaration}
use Rattle.c_tree.specs.Level.{AreLeveledVariables}
use Rattle.c_tree.specs.Depth.{further_variables_depth}
use Rattle.c_tree.specs.Spell.{number_spelling, variable_spelling, further_variables_spelling, formula_spelling}
use Rattle.c_grammar.specs.Reading.{IsEnd, IsGood}
use Rattle.c_grammar.specs.Words.{number}
use Rattle.c_grammar.specs.Until.{until_spelling, until_good}
use Rattle.c_grammar.specs.Declarations.{plain_variable, variable_within, IsPlainEnd, IsVariableEndWithin, expression, array, initial, array_from, without_initial, initial_from, variable_behind, variable_read, further_variables, declaration_read, IsGoodVariable, IsVariableEnd}
use Rattle.c_grammar.specs.Statements.{IsDeclarationOf, inside_declaration}
use Rattle.c_grammar.proofs.LawfulWords.{number_law}
use Rattle.c_grammar.proofs.LawfulExpressions.{expression_law}
use Rattle.c_grammar.proofs.Until.{until_law}
use Rattle.c_grammar.proofs.Flat.{one_node}

-- ---- behind a name

module _ (x : Name) where
  abbrev inside : Variable → List Symbol
  inside v = beyond (variable_spelling v)

  -- an array
  abbrev array_of : ℕ → Number × ℕ → Variable
  array_of p z = Array x p z.0 z.1

  array_law : (p : ℕ) → IsReading (λ v. beyond (inside v)) (IsMade Any (array_of p)) IsPlainEnd (array x p)
  array_law p =
      made_law (array_of p) (λ z. number_spelling z.0 ++ fixed z.1 (codes "]")) Any (number >>> sign (codes "]")) (λ v. beyond (inside v)) IsPlainEnd (λ z. refl)
      (then_free _ _ _ _ _ _ number_law (sign_law (codes "]")))

  -- a name alone, or an array
  abbrev IsPlain : Variable → Type 0
  IsPlain v = (v ≡ Scalar x) ⊎ ((p : ℕ) × IsMade Any (array_of p) v)

  plain_law : IsReading inside IsPlain IsPlainEnd (without_initial x)
  plain_law =
      by_mark_law (codes "[") (without_initial x) (given (Scalar x)) (array x) (λ n ss i. ap (array_from x n ss) i) (λ n ss at rest i. ap (array_from x n ss) i)
      inside IsPlain IsPlainEnd (λ v. v ≡ Scalar x) Anywhere (λ p v. IsMade Any (array_of p) v) (given_law inside (Scalar x) refl)
      (λ p. record { reading = array_law p; front = made_front Any (array_of p) inside (Symbol.Fixed p (codes "[")) (λ z. refl); to = λ v h. inr (p, h) })
      (λ v h. inl h) (λ v r h e i. subst (λ u. behind (codes "[") (inside u ++ r) ≡ None → IsPlainEnd u r) (sym h) (λ j. j) i) sorted
    where
      sorted : (v : Variable) → IsPlain v → ((v ≡ Scalar x) × ((r : List Symbol) → IsPlainEnd v r → Unit {0} × (behind (codes "[") (inside v ++ r) ≡ None))) ⊎ ((p : ℕ) × IsMade Any (array_of p) v)
      sorted v (inl h) = inl (h, λ r e. (tt, subst (λ u. IsPlainEnd u r → behind (codes "[") (inside u ++ r) ≡ None) (sym h) (λ j. j) e))
      sorted v (inr h) = inr h

-- ---- a variable without an initial value

abbrev plain_pick : Symbol → Option (Reading Variable)
plain_pick (Symbol.Fixed at text) = None
plain_pick (Symbol.Named at text) = Some (without_initial (record { at = at; text = text }))
plain_pick (Symbol.Number at value) = None
plain_pick (Symbol.Quoted at text) = None

abbrev OfPlainName : Symbol → Variable → Type 0
OfPlainName (Symbol.Fixed at text) v = ⊥
OfPlainName (Symbol.Named at text) v = IsPlain (record { at = at; text = text }) v
OfPlainName (Symbol.Number at value) v = ⊥
OfPlainName (Symbol.Quoted at text) v = ⊥

plain_goes : (n : ℕ) (s : Symbol) (ss : List Symbol) → plain_variable n (s ∷ ss) ≡ picked n s ss (plain_pick s)
plain_goes n (Symbol.Fixed at text) ss = refl
plain_goes n (Symbol.Named at text) ss = refl
plain_goes n (Symbol.Number at value) ss = refl
plain_goes n (Symbol.Quoted at text) ss = refl

plain_good : (x : Name) (v : Variable) → IsPlain x v → IsGoodVariable 0 v
plain_good x v (inl h) = subst (IsGoodVariable 0) (sym h) (record { leveled = tt; shallow = omega arith })
plain_good x v (inr (p, m)) = subst (IsGoodVariable 0) m.2 (record { leveled = tt; shallow = omega arith })

plain_front : (x : Name) (v : Variable) → IsPlain x v → variable_spelling v ≡ Symbol.Named x.at x.text ∷ inside x v
plain_front x v (inl h) = subst (λ u. variable_spelling u ≡ Symbol.Named x.at x.text ∷ inside x u) (sym h) refl
plain_front x v (inr (p, m)) = subst (λ u. variable_spelling u ≡ Symbol.Named x.at x.text ∷ inside x u) m.2 refl

plain_each : (s : Symbol) (next : Reading Variable) → plain_pick s ≡ Some next → Behind variable_spelling (IsGoodVariable 0) IsPlainEnd (OfPlainName s) s next
plain_each (Symbol.Fixed at text) next e = none_is_none next e
plain_each (Symbol.Named at text) next e =
    let x : Name = record { at = at; text = text } in
    subst (Behind variable_spelling (IsGoodVariable 0) IsPlainEnd (IsPlain x) (Symbol.Named at text)) (some_is (without_initial x) next e)
    (record { reading = plain_law x; front = plain_front x; to = plain_good x })
plain_each (Symbol.Number at value) next e = none_is_none next e
plain_each (Symbol.Quoted at text) next e = none_is_none next e

plain_from : (v : Variable) → IsGoodVariable 0 v → (s : Symbol) × (next : Reading Variable) × (plain_pick s ≡ Some next) × OfPlainName s v
plain_from (Scalar n) g = (Symbol.Named n.at n.text, without_initial n, refl, inl refl)
plain_from (Initial n at e) g = absurd (omega (arith, g.shallow, one_node e))
plain_from (Array n p z q) g = (Symbol.Named n.at n.text, without_initial n, refl, inr (p, ((z, q), tt, refl)))

plain_variable_law : IsReading variable_spelling (IsGoodVariable 0) IsPlainEnd plain_variable
plain_variable_law =
    told_law variable_spelling (IsGoodVariable 0) IsPlainEnd plain_variable plain_pick OfPlainName (λ n. refl) plain_goes plain_each plain_from
    (Scalar (record { at = 0; text = [] })) (record { leveled = tt; shallow = omega arith })

module _ (room : ℕ) (some : 1 ≤ room) where
  expression_read : IsReading formula_spelling (IsGood 0 room) (IsEnd 0) (expression room)
  expression_read = expression_law 0 room (omega arith) some

  -- ---- with an initial value

  module _ (x : Name) where
    -- or with an initial value
    abbrev initial_of : ℕ → Formula → Variable
    initial_of at e = Initial x at e

    initial_law : (at : ℕ) → IsReading (λ v. beyond (inside x v)) (IsMade (IsGood 0 room) (initial_of at)) IsVariableEnd (initial room x at)
    initial_law at = made_law (initial_of at) formula_spelling (IsGood 0 room) (expression room) (λ v. beyond (inside x v)) IsVariableEnd (λ e. refl) expression_read

    abbrev OfName : Variable → Type 0
    OfName v = IsPlain x v ⊎ ((at : ℕ) × IsMade (IsGood 0 room) (initial_of at) v)

    behind_law : IsReading (inside x) OfName IsVariableEnd (variable_behind room x)
    behind_law =
        by_mark_law (codes "=") (variable_behind room x) (without_initial x) (initial room x) (λ n ss i. ap (initial_from room x n ss) i) (λ n ss at rest i. ap (initial_from room x n ss) i)
        (inside x) OfName IsVariableEnd (IsPlain x) IsPlainEnd (λ at v. IsMade (IsGood 0 room) (initial_of at) v) (plain_law x)
        (λ at. record { reading = initial_law at; front = made_front (IsGood 0 room) (initial_of at) (inside x) (Symbol.Fixed at (codes "=")) (λ e. refl); to = λ v h. inr (at, h) })
        (λ v h. inl h) ends_to sorted
      where
        ends_to : (v : Variable) (r : List Symbol) → IsPlain x v → IsPlainEnd v r → behind (codes "=") (inside x v ++ r) ≡ None → IsVariableEnd v r
        ends_to v r (inl h) e i = subst (λ u. IsPlainEnd u r → behind (codes "=") (inside x u ++ r) ≡ None → IsVariableEnd u r) (sym h) (λ j k. (k, j)) e i
        ends_to v r (inr (p, m)) e i = subst (λ u. IsVariableEnd u r) m.2 tt

        sorted : (v : Variable) → OfName v
            → (IsPlain x v × ((r : List Symbol) → IsVariableEnd v r → IsPlainEnd v r × (behind (codes "=") (inside x v ++ r) ≡ None))) ⊎ ((at : ℕ) × IsMade (IsGood 0 room) (initial_of at) v)
        sorted v (inl (inl h)) = inl (inl h, λ r e. subst (λ u. IsVariableEnd u r → IsPlainEnd u r × (behind (codes "=") (inside x u ++ r) ≡ None)) (sym h) (λ j. (j.1, j.0)) e)
        sorted v (inl (inr (p, m))) = inl (inr (p, m), λ r e. subst (λ u. IsPlainEnd u r × (behind (codes "=") (inside x u ++ r) ≡ None)) m.2 (tt, refl))
        sorted v (inr h) = inr h

    -- each may be read and has its name in front
    named_good : (v : Variable) → OfName v → IsGoodVariable room v
    named_good v (inl (inl h)) = subst (IsGoodVariable room) (sym h) (record { leveled = tt; shallow = omega arith })
    named_good v (inl (inr (p, m))) = subst (IsGoodVariable room) m.2 (record { leveled = tt; shallow = omega arith })
    named_good v (inr (at, m)) = subst (IsGoodVariable room) m.2 (record { leveled = m.1.leveled; shallow = omega (arith, m.1.shallow) })

    named_front : (v : Variable) → OfName v → variable_spelling v ≡ Symbol.Named x.at x.text ∷ inside x v
    named_front v (inl (inl h)) = subst (λ u. variable_spelling u ≡ Symbol.Named x.at x.text ∷ inside x u) (sym h) refl
    named_front v (inl (inr (p, m))) = subst (λ u. variable_spelling u ≡ Symbol.Named x.at x.text ∷ inside x u) m.2 refl
    named_front v (inr (at, m)) = subst (λ u. variable_spelling u ≡ Symbol.Named x.at x.text ∷ inside x u) m.2 refl

  -- ---- a variable

  abbrev variable_pick : Symbol → Option (Reading Variable)
  variable_pick (Symbol.Fixed at text) = None
  variable_pick (Symbol.Named at text) = Some (variable_behind room (record { at = at; text = text }))
  variable_pick (Symbol.Number at value) = None
  variable_pick (Symbol.Quoted at text) = None

  abbrev OfFirstName : Symbol → Variable → Type 0
  OfFirstName (Symbol.Fixed at text) v = ⊥
  OfFirstName (Symbol.Named at text) v = OfName (record { at = at; text = text }) v
  OfFirstName (Symbol.Number at value) v = ⊥
  OfFirstName (Symbol.Quoted at text) v = ⊥

  variable_goes : (n : ℕ) (s : Symbol) (ss : List Symbol) → variable_read room n (s ∷ ss) ≡ picked n s ss (variable_pick s)
  variable_goes n (Symbol.Fixed at text) ss = refl
  variable_goes n (Symbol.Named at text) ss = refl
  variable_goes n (Symbol.Number at value) ss = refl
  variable_goes n (Symbol.Quoted at text) ss = refl

  variable_each : (s : Symbol) (next : Reading Variable) → variable_pick s ≡ Some next → Behind variable_spelling (IsGoodVariable room) IsVariableEnd (OfFirstName s) s next
  variable_each (Symbol.Fixed at text) next e = none_is_none next e
  variable_each (Symbol.Named at text) next e =
      let x : Name = record { at = at; text = text } in
      subst (Behind variable_spelling (IsGoodVariable room) IsVariableEnd (OfName x) (Symbol.Named at text)) (some_is (variable_behind room x) next e)
      (record { reading = behind_law x; front = named_front x; to = named_good x })
  variable_each (Symbol.Number at value) next e = none_is_none next e
  variable_each (Symbol.Quoted at text) next e = none_is_none next e

  variable_from : (v : Variable) → IsGoodVariable room v → (s : Symbol) × (next : Reading Variable) × (variable_pick s ≡ Some next) × OfFirstName s v
  variable_from (Scalar n) g = (Symbol.Named n.at n.text, variable_behind room n, refl, inl (inl refl))
  variable_from (Initial n at e) g =
      (Symbol.Named n.at n.text, variable_behind room n, refl, inr (at, (e, record { leveled = g.leveled; at_least = omega arith; shallow = omega (arith, g.shallow) }, refl)))
  variable_from (Array n p z q) g = (Symbol.Named n.at n.text, variable_behind room n, refl, inl (inr (p, ((z, q), tt, refl))))

  pub variable_law : IsReading variable_spelling (IsGoodVariable room) IsVariableEnd (variable_read room)
  variable_law =
      told_law variable_spelling (IsGoodVariable room) IsVariableEnd (variable_read room) variable_pick OfFirstName (λ n. refl) variable_goes variable_each variable_from
      (Scalar (record { at = 0; text = [] })) (record { leveled = tt; shallow = omega arith })

-- ---- with room for an initial value or without

-- so they are read lawfully
pub variable_within_law : (room : ℕ) → IsReading variable_spelling (IsGoodVariable room) (IsVariableEndWithin room) (variable_within room)
variable_within_law zero = plain_variable_law
variable_within_law (suc room) = variable_law (suc room) (omega arith)

-- an end is one whatever the room
pub ends_within : (room : ℕ) (v : Variable) (r : List Symbol) → IsVariableEnd v r → IsVariableEndWithin room v r
ends_within zero (Scalar x) r e = e.1
ends_within zero (Initial x at e) r i = tt
ends_within zero (Array x p z q) r e = tt
ends_within (suc room) v r e = e

module _ (room : ℕ) where
  -- ---- further ones, and declarations

  abbrev each : ℕ × Variable → List Symbol
  each p = fixed p.0 (codes ",") ++ variable_spelling p.1

  before_comma : (v : Variable) (at : ℕ) (r : List Symbol) → IsVariableEnd v (Symbol.Fixed at (codes ",") ∷ r)
  before_comma (Scalar n) at r = (refl, refl)
  before_comma (Initial n p e) at r = record { stops = refl; no_index = λ _. record { bracket = refl; parenthesis = refl } }
  before_comma (Array n p z q) at r = tt

  before_end : (v : Variable) (at : ℕ) (r : List Symbol) → IsVariableEnd v (Symbol.Fixed at (codes ";") ∷ r)
  before_end (Scalar n) at r = (refl, refl)
  before_end (Initial n p e) at r = record { stops = refl; no_index = λ _. record { bracket = refl; parenthesis = refl } }
  before_end (Array n p z q) at r = tt

  abbrev is_good : ℕ × Variable → Type 0
  is_good p = IsGoodVariable room p.1

  further_variables_law : IsReading (until_spelling (codes ";") each) (until_good is_good) Anywhere (further_variables room)
  further_variables_law =
      until_law (codes ";") each is_good (λ p r. IsVariableEndWithin room p.1 r) (sign (codes ",") >>> variable_within room) (then_free _ _ _ _ _ _ (sign_law (codes ",")) (variable_within_law room)).law
      (λ p r g. refl) (λ p g. omega arith) (λ p q r g h. ends_within room p.1 _ (before_comma p.1 q.0 (variable_spelling q.1 ++ r))) (λ p at r g. ends_within room p.1 _ (before_end p.1 at r))

  further_spelled : (vs : List (ℕ × Variable)) → further_variables_spelling vs ≡ flat_map each vs
  further_spelled [] = refl
  further_spelled ((comma, v) ∷ vs) = ap (λ u. (fixed comma (codes ",") ++ variable_spelling v) ++ u) (further_spelled vs)

  further_leveled : (vs : List (ℕ × Variable)) → Goods is_good vs → AreLeveledVariables vs × (further_variables_depth vs ≤ suc room)
  further_leveled [] h = (tt, omega arith)
  further_leveled ((comma, v) ∷ vs) h = let t = further_leveled vs h.1 in ((h.0.leveled, t.0), omega (arith, h.0.shallow, t.1))

  further_good : (vs : List (ℕ × Variable)) → AreLeveledVariables vs → further_variables_depth vs ≤ suc room → Goods is_good vs
  further_good [] h le = tt
  further_good ((comma, v) ∷ vs) h le = (record { leveled = h.0; shallow = omega (arith, le) }, further_good vs h.1 (omega (arith, le)))

  abbrev Parts : Type 0
  Parts = Variable × (List (ℕ × Variable) × ℕ)

  abbrev declared : ℕ → Parts → Declaration
  declared at (v, (vs, q)) = record { word = type_word.Int at; first = v; rest = vs; semicolon = q }

  abbrev parts_good : Parts → Type 0
  parts_good x = IsGoodVariable room x.0 × until_good is_good x.1

  abbrev parts_spelling : Parts → List Symbol
  parts_spelling x = variable_spelling x.0 ++ until_spelling (codes ";") each x.1

  first_before : (v : Variable) (p : List (ℕ × Variable) × ℕ) (r : List Symbol) → IsVariableEndWithin room v (until_spelling (codes ";") each p ++ r)
  first_before v ([], q) r = ends_within room v _ (before_end v q r)
  first_before v ((comma, w) ∷ vs, q) r = ends_within room v _ (before_comma v comma (((variable_spelling w ++ flat_map each vs) ++ fixed q (codes ";")) ++ r))

  same : (at : ℕ) (x : Parts) → inside_declaration (declared at x) ≡ parts_spelling x
  same at (v, (vs, q)) =
      append_assoc (variable_spelling v) (further_variables_spelling vs) (fixed q (codes ";")) ∙ ap (λ u. variable_spelling v ++ (u ++ fixed q (codes ";"))) (further_spelled vs)

  parts_to : (at : ℕ) (x : Parts) → parts_good x → IsDeclarationOf room at (declared at x)
  parts_to at (v, (vs, q)) g =
      let t = further_leveled vs g.1 in
      record { good = record { first = g.0.leveled; rest = t.0; shallow = omega (arith, g.0.shallow, t.1) }; word = refl }

  parts_from : (at : ℕ) (d : Declaration) → IsDeclarationOf room at d → IsMade parts_good (declared at) d
  parts_from at d g = (
    (d.first, (d.rest, d.semicolon)),
    (record { leveled = g.good.first; shallow = omega (arith, g.good.shallow) }, further_good d.rest g.good.rest (omega (arith, g.good.shallow))),
    ap (λ w. record { word = w; first = d.first; rest = d.rest; semicolon = d.semicolon }) (sym g.word),
  )

  -- so declarations are read lawfully
  pub declaration_law : (at : ℕ) → IsReading inside_declaration (IsDeclarationOf room at) Anywhere (declaration_read room at)
  declaration_law at =
      made_all (declared at) parts_spelling parts_good (variable_within room >>> further_variables room) inside_declaration (IsDeclarationOf room at) Anywhere
      (same at) (parts_to at) (parts_from at)
      (then_law _ _ _ _ _ _ _ _ (variable_within_law room) further_variables_law (λ v p r g h e. first_before v p r))
