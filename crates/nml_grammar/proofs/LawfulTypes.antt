-- The reading of types and parameters keeps the law.
use Rattle.std.proofs.Common.{◌≡◌, ℕ, List, [], ◌∷◌, ◌++◌, length, Option, Some, None, option_map, refl, ap, subst, Bool, true, false}
use Rattle.std.specs.Prelude.{codes, flat_map, if◌then◌else◌}
use Rattle.nk_base.specs.Text.{text_eq}
use Rattle.nml_tree.specs.declared.names.Name.{Name}
use Rattle.nml_tree.specs.declared.tree.Size.{Size}
use Rattle.nml_tree.specs.declared.tree.TypeExpr.{TypeExpr}
use Rattle.nml_tree.specs.declared.tree.Par.{Par}
use Rattle.nml_tree.specs.declared.tree.Pars.{Pars}
use Rattle.readings.specs.Symbol.{Symbol, fixed, beyond}
use Rattle.nml_tree.specs.Spell.{name_spelling, size_spelling, type_spelling}
use Rattle.nml_tree.specs.SpellItems.{par_spelling, further_par_spelling, pars_spelling}
use Rattle.readings.specs.Reading.{Found, Stuck, looked_up, behind}
use Rattle.readings.specs.Readings.{Reading, ◌>>>◌, made, given, sign, further, worded_from}
use Rattle.nml_grammar.specs.Words.{size, name}
use Rattle.nml_grammar.specs.ReadingItems.{Kind, Truth, Card, Int, Fix, Float, kinds, behind_kind, type_read, par, some_pars, pars_from, pars}
use Rattle.readings.proofs.Symbols.{some_is, none_is_none, Each}
use Rattle.nml_grammar.proofs.Flat.{join4}
use Rattle.readings.proofs.After.{found_not_stuck, found_is}
use Rattle.readings.specs.Lawful.{Locally, IsLocal, Settles, Eventually, Begins, Reads, IsReading, Any, Anywhere, IsMade}
use Rattle.readings.proofs.Local.{found_before, agree_local, empty_local}
use Rattle.readings.proofs.Settling.{settles_at_once, settles_alike}
use Rattle.readings.proofs.Combining.{then_free, sign_law, made_law, made_all, picked, Behind, told_law}
use Rattle.readings.proofs.CombiningWords.{made_front, OfWord, Word, word_each, single_behind}
use Rattle.nml_grammar.proofs.LawfulWords.{name_law, size_law}
use Rattle.readings.proofs.CombiningLists.{no_mark, further_free}
use Rattle.nml_tree.specs.declared.tree.TypeExpr.TheVariants as types

-- ---- types

-- those with one size and those with two
abbrev card : ℕ → ℕ × (Size × ℕ) → TypeExpr
card at x = types.Card at x.0 x.1.0 x.1.1

-- the integers of a size
abbrev int : ℕ → ℕ × (Size × ℕ) → TypeExpr
int at x = types.Int at x.0 x.1.0 x.1.1

-- those with a fixed point
abbrev fix : ℕ → ℕ × (Size × (ℕ × (Size × ℕ))) → TypeExpr
fix at x = types.Fix at x.0 x.1.0 x.1.1.0 x.1.1.1.0 x.1.1.1.1

-- those with a floating point
abbrev float : ℕ → ℕ × (Size × (ℕ × (Size × ℕ))) → TypeExpr
float at x = types.Float at x.0 x.1.0 x.1.1.0 x.1.1.1.0 x.1.1.1.1

-- a size between parentheses, and two
abbrev one_size : ℕ × (Size × ℕ) → List Symbol
one_size x = fixed x.0 (codes "(") ++ (size_spelling x.1.0 ++ fixed x.1.1 (codes ")"))

-- two sizes between parentheses
abbrev two_sizes : ℕ × (Size × (ℕ × (Size × ℕ))) → List Symbol
two_sizes x = fixed x.0 (codes "(") ++ (size_spelling x.1.0 ++ (fixed x.1.1.0 (codes ",") ++ (size_spelling x.1.1.1.0 ++ fixed x.1.1.1.1 (codes ")"))))

-- one size is read lawfully
one_size_law : IsReading one_size Any Anywhere (sign (codes "(") >>> (size >>> sign (codes ")")))
one_size_law = then_free _ _ _ _ _ _ (sign_law (codes "(")) (then_free _ _ _ _ _ _ size_law (sign_law (codes ")")))

-- so are two
two_sizes_law : IsReading two_sizes Any Anywhere (sign (codes "(") >>> (size >>> (sign (codes ",") >>> (size >>> sign (codes ")")))))
two_sizes_law =
    then_free _ _ _ _ _ _ (sign_law (codes "("))
    (then_free _ _ _ _ _ _ size_law (then_free _ _ _ _ _ _ (sign_law (codes ",")) (then_free _ _ _ _ _ _ size_law (sign_law (codes ")")))))

-- the symbols of a type with two sizes, behind its word
two_sizes_spelled : (at : ℕ) (word : List ℕ) (x : ℕ × (Size × (ℕ × (Size × ℕ))))
    → beyond (fixed at word ++ fixed x.0 (codes "(") ++ size_spelling x.1.0 ++ fixed x.1.1.0 (codes ",") ++ size_spelling x.1.1.1.0 ++ fixed x.1.1.1.1 (codes ")")) ≡
    two_sizes x
two_sizes_spelled at word x = ap (λ u. Symbol.Fixed x.0 (codes "(") ∷ u)
    (join4 (size_spelling x.1.0) (fixed x.1.1.0 (codes ",")) (size_spelling x.1.1.1.0) (fixed x.1.1.1.1 (codes ")")))

-- the types of a keyword
abbrev OfKind : Kind → ℕ → TypeExpr → Type 0
OfKind Truth at y = y ≡ types.Bool at
OfKind Card at y = IsMade Any (card at) y
OfKind Int at y = IsMade Any (int at) y
OfKind Fix at y = IsMade Any (fix at) y
OfKind Float at y = IsMade Any (float at) y

-- a word of types, with its law
abbrev TypeWord : List ℕ → Kind → Type 0
TypeWord = Word type_spelling Any Anywhere behind_kind OfKind

-- all words
type_words : Each TypeWord kinds
type_words = (
  λ at. single_behind type_spelling Any (Symbol.Fixed at (codes "bool")) (types.Bool at) refl tt,
  (
    λ at. record {
      reading = made_law (card at) one_size Any (sign (codes "(") >>> (size >>> sign (codes ")"))) (λ y. beyond (type_spelling y)) Anywhere (λ x. refl) one_size_law;
      front = made_front Any (card at) type_spelling (Symbol.Fixed at (codes "card")) (λ x. refl);
      to = λ y h. tt;
    },
    (
      λ at. record {
        reading = made_law (int at) one_size Any (sign (codes "(") >>> (size >>> sign (codes ")"))) (λ y. beyond (type_spelling y)) Anywhere (λ x. refl) one_size_law;
        front = made_front Any (int at) type_spelling (Symbol.Fixed at (codes "int")) (λ x. refl);
        to = λ y h. tt;
      },
      (
        λ at. record {
          reading = made_law (fix at) two_sizes Any (sign (codes "(") >>> (size >>> (sign (codes ",") >>> (size >>> sign (codes ")")))))
              (λ y. beyond (type_spelling y)) Anywhere (two_sizes_spelled at (codes "fix")) two_sizes_law;
          front = made_front Any (fix at) type_spelling (Symbol.Fixed at (codes "fix")) (λ x. refl);
          to = λ y h. tt;
        },
        (
          λ at. record {
            reading = made_law (float at) two_sizes Any (sign (codes "(") >>> (size >>> (sign (codes ",") >>> (size >>> sign (codes ")")))))
                (λ y. beyond (type_spelling y)) Anywhere (two_sizes_spelled at (codes "float")) two_sizes_law;
            front = made_front Any (float at) type_spelling (Symbol.Fixed at (codes "float")) (λ x. refl);
            to = λ y h. tt;
          },
          tt,
        ),
      ),
    ),
  ),
)

-- what stands behind the first symbol
abbrev type_pick : Symbol → Option (Reading TypeExpr)
type_pick (Symbol.Fixed at text) = option_map (λ k. behind_kind k at) (looked_up kinds text)
type_pick (Symbol.Named at text) = Some (given (types.Name (record { at = at; text = text })))
type_pick (Symbol.Number at value) = None
type_pick (Symbol.Quoted at text) = None

-- the types of a first symbol
abbrev OfType : Symbol → TypeExpr → Type 0
OfType (Symbol.Fixed at text) y = OfWord OfKind at (looked_up kinds text) y
OfType (Symbol.Named at text) y = y ≡ types.Name (record { at = at; text = text })
OfType (Symbol.Number at value) y = ⊥
OfType (Symbol.Quoted at text) y = ⊥

-- the reading goes by the first symbol
type_goes : (n : ℕ) (s : Symbol) (ss : List Symbol) → type_read n (s ∷ ss) ≡ picked n s ss (type_pick s)
type_goes n (Symbol.Fixed at text) ss = by (looked_up kinds text)
  where
    by : (o : Option Kind) → worded_from behind_kind n (Symbol.Fixed at text ∷ ss) at ss o ≡ picked n (Symbol.Fixed at text) ss (option_map (λ k. behind_kind k at) o)
    by None = refl
    by (Some k) = refl
type_goes n (Symbol.Named at text) ss = refl
type_goes n (Symbol.Number at value) ss = refl
type_goes n (Symbol.Quoted at text) ss = refl

-- and behind it is lawful
type_each : (s : Symbol) (next : Reading TypeExpr) → type_pick s ≡ Some next → Behind type_spelling Any Anywhere (OfType s) s next
type_each (Symbol.Fixed at text) next e = word_each type_spelling Any Anywhere kinds behind_kind OfKind type_words at text next e
type_each (Symbol.Named at text) next e =
    subst (Behind type_spelling Any Anywhere (OfType (Symbol.Named at text)) (Symbol.Named at text))
    (some_is (given (types.Name (record { at = at; text = text }))) next e)
    (single_behind type_spelling Any (Symbol.Named at text) (types.Name (record { at = at; text = text })) refl tt)
type_each (Symbol.Number at value) next e = none_is_none next e
type_each (Symbol.Quoted at text) next e = none_is_none next e

-- each type is told by its first symbol
type_from : (y : TypeExpr) → Any y → (s : Symbol) × (next : Reading TypeExpr) × (type_pick s ≡ Some next) × OfType s y
type_from (types.Bool at) g = (Symbol.Fixed at (codes "bool"), behind_kind Truth at, refl, refl)
type_from (types.Card at p n q) g = (Symbol.Fixed at (codes "card"), behind_kind Card at, refl, ((p, (n, q)), tt, refl))
type_from (types.Int at p n q) g = (Symbol.Fixed at (codes "int"), behind_kind Int at, refl, ((p, (n, q)), tt, refl))
type_from (types.Fix at p n c m q) g = (Symbol.Fixed at (codes "fix"), behind_kind Fix at, refl, ((p, (n, (c, (m, q)))), tt, refl))
type_from (types.Float at p n c m q) g = (Symbol.Fixed at (codes "float"), behind_kind Float at, refl, ((p, (n, (c, (m, q)))), tt, refl))
type_from (types.Name n) g = (Symbol.Named n.at n.text, given (types.Name n), refl, refl)

-- types are read lawfully
pub type_law : IsReading type_spelling Any Anywhere type_read
type_law = told_law type_spelling Any Anywhere type_read type_pick OfType (λ n. refl) type_goes type_each type_from (types.Bool 0) tt

-- ---- parameters

-- the parameter of its parts
abbrev par_of : Name × (ℕ × TypeExpr) → Par
par_of x = record { name = x.0; colon = x.1.0; ty = x.1.1 }

-- parameters are read lawfully
pub par_law : IsReading par_spelling Any Anywhere par
par_law =
    made_all par_of (λ x. name_spelling x.0 ++ (fixed x.1.0 (codes ":") ++ type_spelling x.1.1)) Any
    (name >>> (sign (codes ":") >>> type_read)) par_spelling Any Anywhere (λ x. refl) (λ x h. tt)
    (λ y h. ((y.name, (y.colon, y.ty)), tt, refl)) (then_free _ _ _ _ _ _ name_law (then_free _ _ _ _ _ _ (sign_law (codes ":")) type_law))

-- the symbols of a parameter and further ones
abbrev some_pars_spelling : Pars → List Symbol
some_pars_spelling ps = par_spelling ps.first ++ flat_map further_par_spelling ps.rest

-- the parameters of their parts
abbrev pars_of : Par × List (ℕ × Par) → Pars
pars_of x = record { first = x.0; rest = x.1 }

-- they are read lawfully
some_pars_law : IsReading some_pars_spelling Any (no_mark (codes ",")) some_pars
some_pars_law =
    made_all pars_of (λ x. par_spelling x.0 ++ flat_map further_par_spelling x.1) Any (par >>> further (codes ",") par) some_pars_spelling Any (no_mark (codes ","))
    (λ x. refl) (λ x h. tt)
    (λ y h. ((y.first, y.rest), tt, refl)) (then_free _ _ _ _ _ _ par_law (further_free (codes ",") par_spelling par further_par_spelling (λ at x. refl) par_law))

-- where there are none the closing parenthesis is next, and else no comma is
abbrev pub pars_ends : Option Pars → List Symbol → Type 0
pars_ends None r = (z : ℕ × List Symbol) × (behind (codes ")") r ≡ Some z)
pars_ends (Some ps) r = behind (codes ",") r ≡ None

-- so are they where some are
abbrev pars_from_law : IsReading pars_spelling (IsMade Any Some) pars_ends (made Some some_pars)
pars_from_law = made_law Some some_pars_spelling Any some_pars pars_spelling pars_ends (λ x. refl) some_pars_law

-- what is found is spelled so
pars_sound : (n : ℕ) (ss : List Symbol) (x : Option Pars) (rest : List Symbol) → pars n ss ≡ Found x rest → Reads pars_spelling Any pars_ends ss x rest
pars_sound n ss x rest e = by (behind (codes ")") ss) refl e
  where
    by : (o : Option (ℕ × List Symbol)) → behind (codes ")") ss ≡ o → pars_from n ss o ≡ Found x rest → Reads pars_spelling Any pars_ends ss x rest
    by None i f = let r = pars_from_law.law.sound n ss x rest f in record { fits = tt; is_end = r.is_end; whole = r.whole }
    by (Some z) i f = found_is (Reads pars_spelling Any pars_ends ss) None x ss rest f (record { fits = tt; is_end = (z, i); whole = refl })

-- parameters, or none, are found from their spelling
pars_complete : (x : Option Pars) (rest : List Symbol) → Any x → pars_ends x rest → Eventually (λ n. pars n (pars_spelling x ++ rest) ≡ Found x rest)
pars_complete None rest g e = (0, λ n le. ap (pars_from n rest) e.1)
pars_complete (Some ps) rest g e = pars_from_law.law.complete (Some ps) rest (ps, tt, refl) e

-- the reading goes by no symbol behind the first that it leaves
pars_local : (n : ℕ) → IsLocal (pars n)
pars_local n [] = empty_local (pars n) (made Some some_pars n) (made Some some_pars n []) (pars_from_law.law.local n [])
pars_local n (Symbol.Fixed at text ∷ ss) = by (text_eq text (codes ")")) refl
  where
    by : (b : Bool) → text_eq text (codes ")") ≡ b
        → Locally (pars n) (Symbol.Fixed at text ∷ ss) (pars_from n (Symbol.Fixed at text ∷ ss) (if◌then◌else◌ {A = Option (ℕ × List Symbol)} b (Some (at, ss)) None))
    by true e = found_before (pars n) None (Symbol.Fixed at text) ss
        (λ t. ap (λ b. pars_from n (Symbol.Fixed at text ∷ t) (if◌then◌else◌ {A = Option (ℕ × List Symbol)} b (Some (at, t)) None)) e)
    by false e =
        agree_local (pars n) (made Some some_pars n) (Symbol.Fixed at text) ss (made Some some_pars n (Symbol.Fixed at text ∷ ss))
        (λ t. ap (λ b. pars_from n (Symbol.Fixed at text ∷ t) (if◌then◌else◌ {A = Option (ℕ × List Symbol)} b (Some (at, t)) None)) e)
        (pars_from_law.law.local n (Symbol.Fixed at text ∷ ss))
pars_local n (Symbol.Named at text ∷ ss) =
    agree_local (pars n) (made Some some_pars n) (Symbol.Named at text) ss (made Some some_pars n (Symbol.Named at text ∷ ss)) (λ t. refl)
    (pars_from_law.law.local n (Symbol.Named at text ∷ ss))
pars_local n (Symbol.Number at value ∷ ss) =
    agree_local (pars n) (made Some some_pars n) (Symbol.Number at value) ss (made Some some_pars n (Symbol.Number at value ∷ ss)) (λ t. refl)
    (pars_from_law.law.local n (Symbol.Number at value ∷ ss))
pars_local n (Symbol.Quoted at text ∷ ss) =
    agree_local (pars n) (made Some some_pars n) (Symbol.Quoted at text) ss (made Some some_pars n (Symbol.Quoted at text ∷ ss)) (λ t. refl)
    (pars_from_law.law.local n (Symbol.Quoted at text ∷ ss))

-- where the reading is stuck, what stands before goes on to be parameters
pars_viable : (n : ℕ) (ss rest : List Symbol) → pars n ss ≡ Stuck rest → Begins pars_spelling Any ss rest
pars_viable n ss rest e = by (behind (codes ")") ss) e
  where
    by : (o : Option (ℕ × List Symbol)) → pars_from n ss o ≡ Stuck rest → Begins pars_spelling Any ss rest
    by None f = let v = pars_from_law.law.viable n ss rest f in record {
      front = v.front;
      further = v.further;
      thing = v.thing;
      left = v.left;
      fits = tt;
      whole = v.whole;
    }
    by (Some z) f = found_not_stuck None ss rest f

-- the reading settles as that of some does, or at once
pars_settled : (ss : List Symbol) → Settles (length ss) (λ n. pars n ss)
pars_settled ss = by (behind (codes ")") ss) refl
  where
    by : (o : Option (ℕ × List Symbol)) → behind (codes ")") ss ≡ o → Settles (length ss) (λ n. pars n ss)
    by None i = settles_alike (length ss) (λ n. made Some some_pars n ss) (λ n. pars n ss) (λ n. ap (pars_from n ss) i) (pars_from_law.law.settled ss)
    by (Some z) i = settles_at_once (length ss) (λ n. pars n ss) (Found None ss) tt (λ n. ap (pars_from n ss) i)

-- so parameters, or none, are read lawfully
pub pars_law : IsReading pars_spelling Any pars_ends pars
pars_law = record {
  law = record { sound = pars_sound; complete = pars_complete; local = pars_local; viable = pars_viable; settled = pars_settled };
  thing = None;
  fits = tt;
}
