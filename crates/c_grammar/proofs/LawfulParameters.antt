-- Parameters are read lawfully.
use Rattle.std.proofs.Common.{◌≡◌, ℕ, List, [], ◌∷◌, ◌++◌, Option, Some, None, refl, ap, arith}
use Rattle.std.specs.Prelude.{codes, flat_map}
use Rattle.c_tree.specs.declared.names.Name.{Name}
use Rattle.c_tree.specs.declared.names.TypeWord.{TypeWord}
use Rattle.c_tree.specs.declared.names.TypeWord.TheVariants as type_word
use Rattle.c_tree.specs.declared.program.Param.{Param}
use Rattle.c_tree.specs.declared.program.Params.{Params}
use Rattle.c_tree.specs.declared.program.Params.TheVariants as params
use Rattle.readings.specs.Symbol.{Symbol, fixed, beyond}
use Rattle.readings.specs.Readings.{◌>>>◌, sign}
use Rattle.readings.specs.Lawful.{IsReading, IsMade, Any, Anywhere}
use Rattle.readings.proofs.Symbols.{Each}
use Rattle.readings.proofs.Combining.{sign_law, made_law, made_all, then_free, other_law}
use Rattle.readings.proofs.CombiningWords.{made_front, Word, ToldWord, worded_law, single_behind}
use Rattle.c_tree.specs.Spell.{name_spelling, type_spelling}
use Rattle.c_tree.specs.SpellGlobals.{param_spelling, further_params_spelling}
use Rattle.c_grammar.specs.Words.{name, type_word_read}
use Rattle.c_grammar.specs.Until.{until, until_spelling, until_good}
use Rattle.c_grammar.specs.Parameters.{parameter, Start, Closing, Empty, Typed, starts, behind_start, parameters, parameters_spelling}
use Rattle.c_grammar.proofs.LawfulWords.{name_law, type_law}
use Rattle.c_grammar.proofs.LawfulGlobals.{all_good}
use Rattle.c_grammar.proofs.Until.{until_law}

abbrev param_of : TypeWord × Name → Param
param_of x = record { word = x.0; name = x.1 }

parameter_law : IsReading param_spelling Any Anywhere parameter
parameter_law =
    made_all param_of (λ x. type_spelling x.0 ++ name_spelling x.1) Any (type_word_read >>> name) param_spelling Any Anywhere (λ x. refl) (λ x h. tt)
    (λ y h. ((y.word, y.name), tt, refl)) (then_free _ _ _ _ _ _ type_law name_law)

-- further ones behind commas
abbrev each : ℕ × Param → List Symbol
each p = fixed p.0 (codes ",") ++ param_spelling p.1

further_law : IsReading (until_spelling (codes ")") each) Any Anywhere (until (codes ")") (sign (codes ",") >>> parameter))
further_law =
    other_law (until_spelling (codes ")") each) (until_good Any) Any Anywhere Anywhere (until (codes ")") (sign (codes ",") >>> parameter)) (λ x h. tt) (λ x h. all_good x.0) (λ x r e. e) (λ x r e. e)
    (until_law (codes ")") each Any Anywhere (sign (codes ",") >>> parameter) (then_free _ _ _ _ _ _ (sign_law (codes ",")) parameter_law).law
    (λ p r g. refl) (λ p g. omega arith) (λ p q r g h. tt) (λ p at r g. tt))

further_spelled : (ps : List (ℕ × Param)) → further_params_spelling ps ≡ flat_map each ps
further_spelled [] = refl
further_spelled ((comma, p) ∷ ps) = ap (λ u. (fixed comma (codes ",") ++ param_spelling p) ++ u) (further_spelled ps)

-- ---- what each word begins

abbrev void_of : ℕ → ℕ → Option Params × ℕ
void_of at q = (Some (params.Void at), q)

abbrev Parts : Type 0
Parts = Name × (List (ℕ × Param) × ℕ)

abbrev named_of : ℕ → Parts → Option Params × ℕ
named_of at (x, (ps, q)) = (Some (params.Named (record { word = type_word.Int at; name = x }) ps), q)

abbrev OfStart : Start → ℕ → Option Params × ℕ → Type 0
OfStart Closing at y = y ≡ (None, at)
OfStart Empty at y = IsMade Any (void_of at) y
OfStart Typed at y = IsMade Any (named_of at) y

abbrev parts_spelling : Parts → List Symbol
parts_spelling x = name_spelling x.0 ++ until_spelling (codes ")") each x.1

named_same : (at : ℕ) (x : Parts) → beyond (parameters_spelling (named_of at x)) ≡ parts_spelling x
named_same at (x, (ps, q)) = ap (λ u. Symbol.Named x.at x.text ∷ (u ++ fixed q (codes ")"))) (further_spelled ps)

named_front : (at : ℕ) (x : Parts) → parameters_spelling (named_of at x) ≡ Symbol.Fixed at (codes "int") ∷ beyond (parameters_spelling (named_of at x))
named_front at (x, (ps, q)) = refl

entries : Each (Word parameters_spelling Any Anywhere behind_start OfStart) starts
entries = (
  λ at. single_behind parameters_spelling Any (Symbol.Fixed at (codes ")")) (None, at) refl tt,
  (
    λ at. record {
      reading = made_law (void_of at) (λ q. fixed q (codes ")")) Any (sign (codes ")")) (λ y. beyond (parameters_spelling y)) Anywhere (λ q. refl) (sign_law (codes ")"));
      front = made_front Any (void_of at) parameters_spelling (Symbol.Fixed at (codes "void")) (λ q. refl);
      to = λ y h. tt;
    },
    (
      λ at. record {
        reading = made_law (named_of at) parts_spelling Any (name >>> until (codes ")") (sign (codes ",") >>> parameter)) (λ y. beyond (parameters_spelling y)) Anywhere (named_same at)
            (then_free _ _ _ _ _ _ name_law further_law);
        front = made_front Any (named_of at) parameters_spelling (Symbol.Fixed at (codes "int")) (named_front at);
        to = λ y h. tt;
      },
      tt,
    ),
  ),
)

-- each is told by its first word
from_named : (w : TypeWord) (x : Name) (ps : List (ℕ × Param)) (q : ℕ) → ToldWord starts OfStart (Some (params.Named (record { word = w; name = x }) ps), q)
from_named (type_word.Int at) x ps q = (codes "int", Typed, at, refl, ((x, (ps, q)), tt, refl))

from : (y : Option Params × ℕ) → Any y → ToldWord starts OfStart y
from (None, q) g = (codes ")", Closing, q, refl, refl)
from (Some (params.Void at), q) g = (codes "void", Empty, at, refl, (q, tt, refl))
from (Some (params.Named p ps), q) g = from_named p.word p.name ps q

pub parameters_law : IsReading parameters_spelling Any Anywhere parameters
parameters_law = worded_law parameters_spelling Any Anywhere starts behind_start OfStart entries from (None, 0) tt
