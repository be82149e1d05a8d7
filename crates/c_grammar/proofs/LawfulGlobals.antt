-- Global variables are read lawfully.
use Rattle.std.proofs.Common.{◌≡◌, ◌⊎◌, inl, inr, ℕ, List, [], ◌∷◌, ◌++◌, Option, Some, None, refl, ap, ◌∙◌, subst, arith, append_assoc}
use Rattle.std.specs.Prelude.{codes, flat_map}
use Rattle.c_tree.specs.declared.names.Name.{Name}
use Rattle.c_tree.specs.declared.names.Number.{Number}
use Rattle.c_tree.specs.declared.program.SNum.{SNum}
use Rattle.c_tree.specs.declared.program.GVar.{GVar}
use Rattle.c_tree.specs.declared.program.GVar.TheVariants as gvars
use Rattle.readings.specs.Symbol.{Symbol, fixed, beyond}
use Rattle.readings.specs.Reading.{behind}
use Rattle.readings.specs.Readings.{Reading, ◌>>>◌, made, sign, optional}
use Rattle.readings.specs.Lawful.{IsReading, IsMade, Any, Anywhere, optional_spelling, optional_ends}
use Rattle.readings.specs.Whole.{Goods}
use Rattle.readings.proofs.Symbols.{some_is, none_is_none}
use Rattle.readings.proofs.Combining.{sign_law, made_law, then_free, other_law, picked, Behind, told_law}
use Rattle.readings.proofs.CombiningWords.{made_front}
use Rattle.readings.proofs.CombiningMarks.{by_mark_law, optional_free}
use Rattle.c_tree.specs.Spell.{number_spelling}
use Rattle.c_tree.specs.SpellGlobals.{snum_spelling, further_snums_spelling, initials_spelling, gvar_spelling}
use Rattle.c_grammar.specs.Words.{number}
use Rattle.c_grammar.specs.Until.{until, until_spelling, until_good}
use Rattle.c_grammar.specs.Globals.{snum_from, snum, listed, row, global_array, global_scalar, global_from, global_behind, global_variable, further_globals, IsGlobalEnd}
use Rattle.c_grammar.proofs.LawfulWords.{number_law}
use Rattle.c_grammar.proofs.Until.{until_law}

-- ---- initial values

abbrev bare : Number → SNum
bare z = record { minus = None; number = z }

abbrev signed : ℕ → Number → SNum
signed at z = record { minus = Some at; number = z }

snum_law : IsReading snum_spelling Any Anywhere snum
snum_law =
    by_mark_law (codes "-") snum (made bare number) (λ at. made (signed at) number) (λ n ss i. ap (snum_from n ss) i) (λ n ss at rest i. ap (snum_from n ss) i)
    snum_spelling Any Anywhere (IsMade Any bare) Anywhere (λ at y. IsMade Any (signed at) y)
    (made_law bare number_spelling Any number snum_spelling Anywhere (λ z. refl) number_law)
    (λ at. record {
      reading = made_law (signed at) number_spelling Any number (λ y. beyond (snum_spelling y)) Anywhere (λ z. refl) number_law;
      front = made_front Any (signed at) snum_spelling (Symbol.Fixed at (codes "-")) (λ z. refl);
      to = λ y h. tt;
    })
    (λ y h. tt) (λ y r h e i. tt) (λ y g. sorted y.minus y.number)
  where
    sorted : (m : Option ℕ) (z : Number)
        → (IsMade Any bare (record { minus = m; number = z }) × ((r : List Symbol) → Unit {0} → Unit {0} × (behind (codes "-") (snum_spelling (record { minus = m; number = z }) ++ r) ≡ None)))
        ⊎ ((at : ℕ) × IsMade Any (signed at) (record { minus = m; number = z }))
    sorted None z = inl ((z, tt, refl), λ r e. (tt, refl))
    sorted (Some at) z = inr (at, (z, tt, refl))

-- further ones behind commas
abbrev each : ℕ × SNum → List Symbol
each p = fixed p.0 (codes ",") ++ snum_spelling p.1

-- all of them may be read
pub all_good : {A : Type 0} (xs : List A) → Goods {A = A} Any xs
all_good [] = tt
all_good (x ∷ xs) = (tt, all_good xs)

values_law : IsReading (until_spelling (codes "}") each) Any Anywhere (until (codes "}") (sign (codes ",") >>> snum))
values_law =
    other_law (until_spelling (codes "}") each) (until_good Any) Any Anywhere Anywhere (until (codes "}") (sign (codes ",") >>> snum)) (λ x h. tt) (λ x h. all_good x.0) (λ x r e. e) (λ x r e. e)
    (until_law (codes "}") each Any Anywhere (sign (codes ",") >>> snum) (then_free _ _ _ _ _ _ (sign_law (codes ",")) snum_law).law
    (λ p r g. refl) (λ p g. omega arith) (λ p q r g h. tt) (λ p at r g. tt))

abbrev List_of : Type 0
List_of = ℕ × (SNum × (List (ℕ × SNum) × ℕ))

abbrev listed_spelling : List_of → List Symbol
listed_spelling p = fixed p.0 (codes "{") ++ (snum_spelling p.1.0 ++ until_spelling (codes "}") each p.1.1)

listed_law : IsReading listed_spelling Any Anywhere listed
listed_law = then_free _ _ _ _ _ _ (sign_law (codes "{")) (then_free _ _ _ _ _ _ snum_law values_law)

values_spelled : (zs : List (ℕ × SNum)) → further_snums_spelling zs ≡ flat_map each zs
values_spelled [] = refl
values_spelled ((comma, z) ∷ zs) = ap (λ u. (fixed comma (codes ",") ++ snum_spelling z) ++ u) (values_spelled zs)

initials_are : (o : Option (ℕ × List_of)) → initials_spelling (row o) ≡ optional_spelling (codes "=") listed_spelling o
initials_are None = refl
initials_are (Some (at, (p, (z, (zs, q))))) =
    ap (λ u. Symbol.Fixed at (codes "=") ∷ Symbol.Fixed p (codes "{") ∷ u)
    (append_assoc (snum_spelling z) (further_snums_spelling zs) (fixed q (codes "}")) ∙ ap (λ u. snum_spelling z ++ (u ++ fixed q (codes "}"))) (values_spelled zs))

-- each row is one
nested : Option (ℕ × ℕ × SNum × List (ℕ × SNum) × ℕ) → Option (ℕ × List_of)
nested None = None
nested (Some (at, p, z, zs, q)) = Some (at, (p, (z, (zs, q))))

row_nested : (o : Option (ℕ × ℕ × SNum × List (ℕ × SNum) × ℕ)) → row (nested o) ≡ o
unfolding nested
row_nested None = refl
row_nested (Some (at, p, z, zs, q)) = refl

-- ---- behind a name
module _ (x : Name) where
  abbrev pub inside : GVar → List Symbol
  inside v = beyond (gvar_spelling v)

  abbrev pub array_of : ℕ → Number × (ℕ × Option (ℕ × List_of)) → GVar
  array_of p (z, (q, i)) = gvars.Array x p z q (row i)

  abbrev pub scalar_of : Option (ℕ × SNum) → GVar
  scalar_of i = gvars.Scalar x i

  -- where an array or a scalar ends, there ends what may be absent in it
  array_ends : (p : ℕ) (y : Number × (ℕ × Option (ℕ × List_of))) (r : List Symbol) → optional_ends (codes "=") Anywhere y.1.1 r → IsGlobalEnd (array_of p y) r
  array_ends p (z, (q, None)) r e = e
  array_ends p (z, (q, Some i)) r e = tt

  array_ends_from : (p : ℕ) (y : Number × (ℕ × Option (ℕ × List_of))) (r : List Symbol) → IsGlobalEnd (array_of p y) r → optional_ends (codes "=") Anywhere y.1.1 r
  array_ends_from p (z, (q, None)) r e = e
  array_ends_from p (z, (q, Some (at, i))) r e = tt

  abbrev array_parts : Number × (ℕ × Option (ℕ × List_of)) → List Symbol
  array_parts y = number_spelling y.0 ++ (fixed y.1.0 (codes "]") ++ optional_spelling (codes "=") listed_spelling y.1.1)

  parts_law : (p : ℕ) → IsReading array_parts Any (λ y r. IsGlobalEnd (array_of p y) r) (number >>> (sign (codes "]") >>> optional (codes "=") listed))
  parts_law p =
      other_law array_parts Any Any (λ y r. optional_ends (codes "=") Anywhere y.1.1 r) (λ y r. IsGlobalEnd (array_of p y) r) (number >>> (sign (codes "]") >>> optional (codes "=") listed))
      (λ y h. tt) (λ y h. tt) (array_ends p) (array_ends_from p)
      (then_free _ _ _ _ _ _ number_law (then_free _ _ _ _ _ _ (sign_law (codes "]")) (optional_free (codes "=") listed_spelling Anywhere listed listed_law)))

  array_same : (p : ℕ) (y : Number × (ℕ × Option (ℕ × List_of))) → beyond (inside (array_of p y)) ≡ array_parts y
  array_same p (z, (q, i)) = ap (λ u. Symbol.Number z.at z.value ∷ Symbol.Fixed q (codes "]") ∷ u) (initials_are i)

  array_law : (p : ℕ) → IsReading (λ v. beyond (inside v)) (IsMade Any (array_of p)) IsGlobalEnd (global_array x p)
  array_law p = made_law (array_of p) array_parts Any (number >>> (sign (codes "]") >>> optional (codes "=") listed)) (λ v. beyond (inside v)) IsGlobalEnd (array_same p) (parts_law p)

  -- a scalar ends where no `=` is next, if it has none
  abbrev IsScalarEnd : GVar → List Symbol → Type 0
  IsScalarEnd (gvars.Scalar y i) r = optional_ends (codes "=") (λ (z : SNum) s. Unit {0}) i r
  IsScalarEnd (gvars.Array y p z q i) r = Unit {0}

  scalar_same : (i : Option (ℕ × SNum)) → inside (scalar_of i) ≡ optional_spelling (codes "=") snum_spelling i
  scalar_same None = refl
  scalar_same (Some (at, z)) = refl

  scalar_law : IsReading inside (IsMade Any scalar_of) IsScalarEnd (global_scalar x)
  scalar_law = made_law scalar_of (optional_spelling (codes "=") snum_spelling) Any (optional (codes "=") snum) inside IsScalarEnd scalar_same (optional_free (codes "=") snum_spelling Anywhere snum snum_law)

  abbrev pub OfName : GVar → Type 0
  OfName v = IsMade Any scalar_of v ⊎ ((p : ℕ) × IsMade Any (array_of p) v)

  array_front : (p : ℕ) (y : Number × (ℕ × Option (ℕ × List_of))) → inside (array_of p y) ≡ Symbol.Fixed p (codes "[") ∷ beyond (inside (array_of p y))
  array_front p (z, (q, i)) = refl

  pub behind_law : IsReading inside OfName IsGlobalEnd (global_behind x)
  behind_law =
      by_mark_law (codes "[") (global_behind x) (global_scalar x) (global_array x) (λ n ss i. ap (global_from x n ss) i) (λ n ss at rest i. ap (global_from x n ss) i)
      inside OfName IsGlobalEnd (IsMade Any scalar_of) IsScalarEnd (λ p v. IsMade Any (array_of p) v) scalar_law
      (λ p. record { reading = array_law p; front = made_front Any (array_of p) inside (Symbol.Fixed p (codes "[")) (array_front p); to = λ v h. inr (p, h) })
      (λ v h. inl h) (λ v r h e i. subst (λ u. IsScalarEnd u r → behind (codes "[") (inside u ++ r) ≡ None → IsGlobalEnd u r) h.2 (ends_to h.0 r) e i) sorted
    where
      ends_to : (o : Option (ℕ × SNum)) (r : List Symbol) → IsScalarEnd (scalar_of o) r → behind (codes "[") (inside (scalar_of o) ++ r) ≡ None → IsGlobalEnd (scalar_of o) r
      ends_to None r e i = (e, i)
      ends_to (Some (at, z)) r e i = tt

      ends_from : (o : Option (ℕ × SNum)) (r : List Symbol) → IsGlobalEnd (scalar_of o) r → IsScalarEnd (scalar_of o) r × (behind (codes "[") (inside (scalar_of o) ++ r) ≡ None)
      ends_from None r e = e
      ends_from (Some (at, z)) r e = (tt, refl)

      sorted : (v : GVar) → OfName v
          → (IsMade Any scalar_of v × ((r : List Symbol) → IsGlobalEnd v r → IsScalarEnd v r × (behind (codes "[") (inside v ++ r) ≡ None))) ⊎ ((p : ℕ) × IsMade Any (array_of p) v)
      sorted v (inl h) = inl (h, λ r e. subst (λ u. IsGlobalEnd u r → IsScalarEnd u r × (behind (codes "[") (inside u ++ r) ≡ None)) h.2 (ends_from h.0 r) e)
      sorted v (inr h) = inr h

  scalar_front : (o : Option (ℕ × SNum)) → gvar_spelling (scalar_of o) ≡ Symbol.Named x.at x.text ∷ inside (scalar_of o)
  scalar_front None = refl
  scalar_front (Some (at, z)) = refl

  array_named : (p : ℕ) (y : Number × (ℕ × Option (ℕ × List_of))) → gvar_spelling (array_of p y) ≡ Symbol.Named x.at x.text ∷ inside (array_of p y)
  array_named p (z, (q, i)) = refl

  pub named_front : (v : GVar) → OfName v → gvar_spelling v ≡ Symbol.Named x.at x.text ∷ inside v
  named_front v (inl h) = made_front Any scalar_of gvar_spelling (Symbol.Named x.at x.text) scalar_front v h
  named_front v (inr (p, h)) = made_front Any (array_of p) gvar_spelling (Symbol.Named x.at x.text) (array_named p) v h

-- ---- global variables

abbrev global_pick : Symbol → Option (Reading GVar)
global_pick (Symbol.Fixed at text) = None
global_pick (Symbol.Named at text) = Some (global_behind (record { at = at; text = text }))
global_pick (Symbol.Number at value) = None
global_pick (Symbol.Quoted at text) = None

abbrev OfFirstName : Symbol → GVar → Type 0
OfFirstName (Symbol.Fixed at text) v = ⊥
OfFirstName (Symbol.Named at text) v = OfName (record { at = at; text = text }) v
OfFirstName (Symbol.Number at value) v = ⊥
OfFirstName (Symbol.Quoted at text) v = ⊥

global_goes : (n : ℕ) (s : Symbol) (ss : List Symbol) → global_variable n (s ∷ ss) ≡ picked n s ss (global_pick s)
global_goes n (Symbol.Fixed at text) ss = refl
global_goes n (Symbol.Named at text) ss = refl
global_goes n (Symbol.Number at value) ss = refl
global_goes n (Symbol.Quoted at text) ss = refl

global_each : (s : Symbol) (next : Reading GVar) → global_pick s ≡ Some next → Behind gvar_spelling Any IsGlobalEnd (OfFirstName s) s next
global_each (Symbol.Fixed at text) next e = none_is_none next e
global_each (Symbol.Named at text) next e =
    let x : Name = record { at = at; text = text } in
    subst (Behind gvar_spelling Any IsGlobalEnd (OfName x) (Symbol.Named at text)) (some_is (global_behind x) next e)
    (record { reading = behind_law x; front = named_front x; to = λ v h. tt })
global_each (Symbol.Number at value) next e = none_is_none next e
global_each (Symbol.Quoted at text) next e = none_is_none next e

-- each has a name
pub name_of : (v : GVar) → (x : Name) × OfName x v
name_of (gvars.Scalar n i) = (n, inl (i, tt, refl))
name_of (gvars.Array n p z q i) = (n, inr (p, ((z, (q, nested i)), tt, ap (λ u. gvars.Array n p z q u) (row_nested i))))

global_told : (v : GVar) → Any v → (s : Symbol) × (next : Reading GVar) × (global_pick s ≡ Some next) × OfFirstName s v
global_told v g = let h = name_of v in (Symbol.Named h.0.at h.0.text, global_behind h.0, refl, h.1)

pub global_variable_law : IsReading gvar_spelling Any IsGlobalEnd global_variable
global_variable_law = told_law gvar_spelling Any IsGlobalEnd global_variable global_pick OfFirstName (λ n. refl) global_goes global_each global_told (gvars.Scalar (record { at = 0; text = [] }) None) tt

-- further ones behind commas, and the semicolon
abbrev pub further_one : ℕ × GVar → List Symbol
further_one p = fixed p.0 (codes ",") ++ gvar_spelling p.1

pub before_mark : (v : GVar) (at : ℕ) (r : List Symbol) → IsGlobalEnd v (Symbol.Fixed at (codes ",") ∷ r) × IsGlobalEnd v (Symbol.Fixed at (codes ";") ∷ r)
before_mark (gvars.Scalar n None) at r = ((refl, refl), (refl, refl))
before_mark (gvars.Scalar n (Some i)) at r = (tt, tt)
before_mark (gvars.Array n p z q None) at r = (refl, refl)
before_mark (gvars.Array n p z q (Some i)) at r = (tt, tt)

pub further_globals_law : IsReading (until_spelling (codes ";") further_one) Any Anywhere further_globals
further_globals_law =
    other_law (until_spelling (codes ";") further_one) (until_good Any) Any Anywhere Anywhere further_globals (λ x h. tt) (λ x h. all_good x.0) (λ x r e. e) (λ x r e. e)
    (until_law (codes ";") further_one Any (λ p r. IsGlobalEnd p.1 r) (sign (codes ",") >>> global_variable) (then_free _ _ _ _ _ _ (sign_law (codes ",")) global_variable_law).law
    (λ p r g. refl) (λ p g. omega arith) (λ p q r g h. (before_mark p.1 q.0 (gvar_spelling q.1 ++ r)).0) (λ p at r g. (before_mark p.1 at r).1))
