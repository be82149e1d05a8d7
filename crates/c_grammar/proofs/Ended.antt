-- A thing or none up to a mark is read lawfully; and so is what ends elsewhere, if what is found says so.
use Rattle.std.proofs.Common.{◌≡◌, ◌⊎◌, inl, inr, ℕ, List, ◌∷◌, ◌++◌, Option, Some, None, refl, ap, sym, ◌∙◌, subst, append_assoc}
use Rattle.readings.specs.Symbol.{Symbol, fixed, beyond}
use Rattle.readings.specs.Reading.{behind}
use Rattle.readings.specs.Readings.{Reading, ◌>>>◌, made, given, sign}
use Rattle.readings.specs.Lawful.{IsReading, IsMade, Any, Anywhere}
use Rattle.readings.proofs.Combining.{sign_law, given_law, made_law, then_law, other_law}
use Rattle.readings.proofs.CombiningMarks.{by_mark_law}
use Rattle.c_grammar.specs.Until.{ended, ended_from, ended_spelling, ended_good}

-- where a good thing ends, in other words
pub ends_law : {A : Type 0} (spelled : A → List Symbol) (good : A → Type 0) (ends others : A → List Symbol → Type 0) (reads : Reading A)
    → ((x : A) (r : List Symbol) → good x → ends x r → others x r) → ((x : A) (r : List Symbol) → good x → others x r → ends x r)
    → IsReading spelled good ends reads → IsReading spelled good others reads
ends_law spelled good ends others reads to from l = record {
  law = record {
    sound = λ n ss x rest e.
        let r = l.law.sound n ss x rest e in
        record { fits = r.fits; is_end = to x rest r.fits r.is_end; whole = r.whole };
    complete = λ x rest g e. l.law.complete x rest g (from x rest g e);
    local = l.law.local;
    viable = l.law.viable;
    settled = l.law.settled;
  };
  thing = l.thing;
  fits = l.fits;
}

-- a thing that may stand before the mark, and the mark
pub marked_law : {A : Type 0} (text : List ℕ) (spelled : A → List Symbol) (good : A → Type 0) (ends : A → List Symbol → Type 0) (reads : Reading A)
    → IsReading spelled good ends reads → ((x : A) (at : ℕ) (r : List Symbol) → good x → ends x (Symbol.Fixed at text ∷ r))
    → IsReading (λ (p : A × ℕ). spelled p.0 ++ fixed p.1 text) (λ (p : A × ℕ). good p.0) Anywhere (reads >>> sign text)
marked_law {A = A} text spelled good ends reads l closed =
    other_law (λ (p : A × ℕ). spelled p.0 ++ fixed p.1 text) (λ (p : A × ℕ). good p.0 × Any p.1) (λ (p : A × ℕ). good p.0) Anywhere Anywhere (reads >>> sign text)
    (λ p h. h.0) (λ p h. (h, tt)) (λ p r e. e) (λ p r e. e)
    (then_law spelled good ends reads (λ at. fixed at text) Any Anywhere (sign text) l (sign_law text) (λ x at r g h e. closed x at r g))

-- no thing begins with the mark, and each may stand before it
module _ {A : Type 0} (text : List ℕ) (spelled : A → List Symbol) (good : A → Type 0) (ends : A → List Symbol → Type 0) (reads : Reading A)
    (l : IsReading spelled good ends reads) (unmarked : (x : A) (r : List Symbol) → good x → behind text (spelled x ++ r) ≡ None)
    (closed : (x : A) (at : ℕ) (r : List Symbol) → good x → ends x (Symbol.Fixed at text ∷ r))
  where
    abbrev some_of : A × ℕ → Option A × ℕ
    some_of (x, at) = (Some x, at)

    -- so it is, or nothing
    pub ended_law : IsReading (ended_spelling text spelled) (ended_good good) Anywhere (ended text reads)
    ended_law =
        by_mark_law text (ended text reads) (made some_of (reads >>> sign text)) (λ at. given (None, at)) (λ n ss i. ap (ended_from text reads n ss) i)
        (λ n ss at rest i. ap (ended_from text reads n ss) i)
        (ended_spelling text spelled) (ended_good good) Anywhere (IsMade (λ (p : A × ℕ). good p.0) some_of) Anywhere (λ at y. y ≡ (None, at))
        (made_law some_of (λ (p : A × ℕ). spelled p.0 ++ fixed p.1 text) (λ (p : A × ℕ). good p.0) (reads >>> sign text) (ended_spelling text spelled) Anywhere (λ p. refl)
        (marked_law text spelled good ends reads l closed))
        (λ at. record {
          reading = given_law (λ y. beyond (ended_spelling text spelled y)) (None, at) refl;
          front = λ y h. subst (λ u. ended_spelling text spelled u ≡ Symbol.Fixed at text ∷ beyond (ended_spelling text spelled u)) (sym h) refl;
          to = λ y h. subst (ended_good good) (sym h) tt;
        })
        (λ y h. subst (ended_good good) h.2 h.1) (λ y r h e i. tt) sorted
      where
        sorted : (y : Option A × ℕ) → ended_good good y
            → (IsMade (λ (p : A × ℕ). good p.0) some_of y × ((r : List Symbol) → Unit {0} → Unit {0} × (behind text (ended_spelling text spelled y ++ r) ≡ None)))
            ⊎ ((at : ℕ) × (y ≡ (None, at)))
        sorted (None, at) g = inr (at, refl)
        sorted (Some x, at) g = inl (((x, at), g, refl), λ r e. (tt, ap (behind text) (append_assoc (spelled x) (fixed at text) r) ∙ unmarked x (Symbol.Fixed at text ∷ r) g))
