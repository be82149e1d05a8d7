-- The arguments of a call are read lawfully.
use Rattle.std.proofs.Common.{◌≡◌, ◌⊎◌, inl, inr, ℕ, ◌≤◌, List, [], ◌∷◌, ◌++◌, None, refl, ap, sym, ◌∙◌, subst, arith, append_assoc}
use Rattle.std.specs.Prelude.{codes, flat_map}
use Rattle.c_tree.specs.declared.names.Name.{Name}
use Rattle.readings.specs.Symbol.{Symbol, fixed, beyond}
use Rattle.readings.specs.Reading.{behind}
use Rattle.readings.specs.Readings.{◌>>>◌, given, sign}
use Rattle.readings.specs.Lawful.{IsReading, IsMade, Anywhere}
use Rattle.readings.proofs.Combining.{sign_law, given_law, made_law, then_law, then_free}
use Rattle.readings.proofs.CombiningMarks.{by_mark_law}
use Rattle.c_tree.specs.Formula.{Formula, Called, further}
use Rattle.c_tree.specs.Spell.{formula_spelling, further_spelling}
use Rattle.c_grammar.specs.Reading.{IsEnd, IsGood}
use Rattle.c_grammar.specs.Until.{until, until_spelling}
use Rattle.c_grammar.specs.Declarations.{expression}
use Rattle.c_grammar.specs.Calls.{Arguments, call_of, with_arguments, called_from, called, arguments_good, IsCallOf, Alone, With, inside_call}
use Rattle.c_grammar.proofs.Flat.{join4}
use Rattle.c_grammar.proofs.Complete.{not_closing}
use Rattle.c_grammar.proofs.LawfulExpressions.{expression_law}
use Rattle.c_grammar.proofs.Until.{until_law}

abbrev each : ℕ × Formula → List Symbol
each p = fixed p.0 (codes ",") ++ formula_spelling p.1

before : (e : Formula) (at : ℕ) (r : List Symbol) → IsEnd 0 e (Symbol.Fixed at (codes ",") ∷ r) × IsEnd 0 e (Symbol.Fixed at (codes ")") ∷ r)
before e at r =
    (record { stops = refl; no_index = λ _. record { bracket = refl; parenthesis = refl } }, record { stops = refl; no_index = λ _. record { bracket = refl; parenthesis = refl } })

first_before : (e : Formula) (a : List (ℕ × Formula) × ℕ) (r : List Symbol) → IsEnd 0 e (until_spelling (codes ")") each a ++ r)
first_before e ([], q) r = (before e q r).1
first_before e ((comma, x) ∷ xs, q) r = (before e comma (((formula_spelling x ++ flat_map each xs) ++ fixed q (codes ")")) ++ r)).0

further_spelled : (xs : List (ℕ × Formula)) → further_spelling (further xs) ≡ flat_map each xs
further_spelled [] = refl
further_spelled ((comma, x) ∷ xs) = ap (λ u. (fixed comma (codes ",") ++ formula_spelling x) ++ u) (further_spelled xs)

abbrev parts_spelling : Arguments → List Symbol
parts_spelling a = formula_spelling a.0 ++ until_spelling (codes ")") each a.1

module _ (room : ℕ) (some : 1 ≤ room) (x : Name) (p : ℕ) where
  parts_law : IsReading parts_spelling (arguments_good room) (λ a r. Anywhere a.1 r) (expression room >>> until (codes ")") (sign (codes ",") >>> expression room))
  parts_law =
      then_law _ _ _ _ _ _ _ _ (expression_law 0 room (omega arith) some)
      (until_law (codes ")") each (λ (p : ℕ × Formula). IsGood 0 room p.1) (λ (p : ℕ × Formula) r. IsEnd 0 p.1 r) (sign (codes ",") >>> expression room)
      (then_free _ _ _ _ _ _ (sign_law (codes ",")) (expression_law 0 room (omega arith) some)).law
      (λ p r g. refl) (λ p g. omega arith) (λ p q r g h. (before p.1 q.0 (formula_spelling q.1 ++ r)).0) (λ p at r g. (before p.1 at r).1))
      (λ e a r g h i. first_before e a r)

  same : (a : Arguments) → inside_call (call_of x p a) ≡ parts_spelling a
  same (e, (xs, q)) =
      append_assoc (formula_spelling e) (further_spelling (further xs)) (fixed q (codes ")")) ∙ ap (λ u. formula_spelling e ++ (u ++ fixed q (codes ")"))) (further_spelled xs)

  unclosed : (a : Arguments) (r : List Symbol) → behind (codes ")") (inside_call (call_of x p a) ++ r) ≡ None
  unclosed (e, (xs, q)) r =
      ap (behind (codes ")")) (join4 (formula_spelling e) (further_spelling (further xs)) (fixed q (codes ")")) r) ∙ not_closing e (further_spelling (further xs) ++ (fixed q (codes ")") ++ r))

  pub called_law : IsReading inside_call (IsCallOf room x p) Anywhere (called room x p)
  called_law =
      by_mark_law (codes ")") (called room x p) (with_arguments room x p) (λ q. given (Called x p q)) (λ n ss i. ap (called_from room x p n ss) i) (λ n ss at rest i. ap (called_from room x p n ss) i)
      inside_call (IsCallOf room x p) Anywhere (IsMade (arguments_good room) (call_of x p)) Anywhere (λ q y. y ≡ Called x p q)
      (made_law (call_of x p) parts_spelling (arguments_good room) (expression room >>> until (codes ")") (sign (codes ",") >>> expression room)) inside_call Anywhere same parts_law)
      (λ q. record {
        reading = given_law (λ y. beyond (inside_call y)) (Called x p q) refl;
        front = λ y h. subst (λ u. inside_call u ≡ Symbol.Fixed q (codes ")") ∷ beyond (inside_call u)) (sym h) refl;
        to = λ y h. Alone q h;
      })
      (λ y h. With h) (λ y r h e i. tt) sorted
    where
      sorted : (y : Formula) → IsCallOf room x p y
          → (IsMade (arguments_good room) (call_of x p) y × ((r : List Symbol) → Unit {0} → Unit {0} × (behind (codes ")") (inside_call y ++ r) ≡ None))) ⊎ ((q : ℕ) × (y ≡ Called x p q))
      sorted y (Alone q h) = inr (q, h)
      sorted y (With h) = inl (h, λ r e. (tt, subst (λ u. behind (codes ")") (inside_call u ++ r) ≡ None) h.2 (unclosed h.0 r)))
