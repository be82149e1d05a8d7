-- Readings of single symbols and of what begins with a word keep the law.
use Rattle.std.proofs.Common.{◌≡◌, ℕ, List, [], ◌∷◌, Option, Some, None, option_map, refl, ap, sym, ◌∙◌, subst}
use Rattle.readings.specs.Symbol.{Symbol, beyond}
use Rattle.readings.specs.Reading.{Stuck, looked_up}
use Rattle.readings.specs.Readings.{Reading, given, worded, worded_from}
use Rattle.readings.proofs.Symbols.{some_is, none_is_none, Each, entry}
use Rattle.readings.specs.Lawful.{IsReading, Any, Anywhere, IsMade}
use Rattle.readings.proofs.Combining.{other_law, given_law, picked, Behind, told_law}

-- what is made stands behind its first symbol
pub made_front : {A B : Type 0} (good : A → Type 0) (make : A → B) (spelled : B → List Symbol) (s : Symbol)
    → ((x : A) → spelled (make x) ≡ s ∷ beyond (spelled (make x))) → (y : B) → IsMade good make y → spelled y ≡ s ∷ beyond (spelled y)
made_front good make spelled s front y h = subst (λ z. spelled z ≡ s ∷ beyond (spelled z)) h.2 (front h.0)

-- ---- words

-- the reading behind the word in front
abbrev pub word_pick : {K A : Type 0} → List (List ℕ × K) → (K → ℕ → Reading A) → Symbol → Option (Reading A)
word_pick table next (Symbol.Fixed at text) = option_map (λ k. next k at) (looked_up table text)
word_pick table next (Symbol.Named at text) = None
word_pick table next (Symbol.Number at value) = None
word_pick table next (Symbol.Quoted at text) = None

-- what is read behind it
abbrev pub OfWord : {K A : Type 0} → (K → ℕ → A → Type 0) → ℕ → Option K → A → Type 0
OfWord Of at None y = ⊥
OfWord Of at (Some k) y = Of k at y

-- what is read of a first symbol
abbrev pub OfFirst : {K A : Type 0} → List (List ℕ × K) → (K → ℕ → A → Type 0) → Symbol → A → Type 0
OfFirst table Of (Symbol.Fixed at text) y = OfWord Of at (looked_up table text) y
OfFirst table Of (Symbol.Named at text) y = ⊥
OfFirst table Of (Symbol.Number at value) y = ⊥
OfFirst table Of (Symbol.Quoted at text) y = ⊥

-- an entry of the table, with its law
abbrev pub Word : {K A : Type 0} → (A → List Symbol) → (A → Type 0) → (A → List Symbol → Type 0) → (K → ℕ → Reading A) → (K → ℕ → A → Type 0) → List ℕ → K → Type 0
Word spelled good ends next Of text k = (at : ℕ) → Behind spelled good ends (Of k at) (Symbol.Fixed at text) (next k at)

-- what is picked for a word is lawful, if each entry is so
pub word_each : {K A : Type 0} (spelled : A → List Symbol) (good : A → Type 0) (ends : A → List Symbol → Type 0) (table : List (List ℕ × K))
    (next : K → ℕ → Reading A) (Of : K → ℕ → A → Type 0)
    → Each (Word spelled good ends next Of) table → (at : ℕ) (text : List ℕ) (reads : Reading A) → option_map (λ k. next k at) (looked_up table text) ≡ Some reads
    → Behind spelled good ends (OfWord Of at (looked_up table text)) (Symbol.Fixed at text) reads
word_each {K = K} {A = A} spelled good ends table next Of entries at text reads e = by (looked_up table text) refl e
  where
    by : (o : Option K) → looked_up table text ≡ o → option_map (λ k. next k at) o ≡ Some reads → Behind spelled good ends (OfWord Of at o) (Symbol.Fixed at text) reads
    by None i f = none_is_none reads f
    by (Some k) i f = subst (λ z. Behind spelled good ends (Of k at) (Symbol.Fixed at text) z) (some_is (next k at) reads f)
        (entry (Word spelled good ends next Of) table text k entries i at)

-- a thing is told by its first word
abbrev pub ToldWord : {K A : Type 0} → List (List ℕ × K) → (K → ℕ → A → Type 0) → A → Type 0
ToldWord {K = K} table Of y = (text : List ℕ) × (k : K) × (at : ℕ) × (looked_up table text ≡ Some k) × Of k at y

-- what begins with one of some words is read lawfully
pub worded_law : {K A : Type 0} (spelled : A → List Symbol) (good : A → Type 0) (ends : A → List Symbol → Type 0) (table : List (List ℕ × K))
    (next : K → ℕ → Reading A) (Of : K → ℕ → A → Type 0)
    → Each (Word spelled good ends next Of) table → ((y : A) → good y → ToldWord table Of y) → (thing : A) → good thing → IsReading spelled good ends (worded table next)
worded_law {K = K} {A = A} spelled good ends table next Of entries from thing fits =
    told_law spelled good ends (worded table next) (word_pick table next) (OfFirst table Of) (λ n. refl) goes each
    (λ y g. let f = from y g in (Symbol.Fixed f.2 f.0, next f.1 f.2, ap (option_map (λ k. next k f.2)) f.3, subst (λ o. OfWord Of f.2 o y) (sym f.3) f.4)) thing fits
  where
    by : (n at : ℕ) (text : List ℕ) (ss : List Symbol) (o : Option K) → worded_from next n (Symbol.Fixed at text ∷ ss) at ss o ≡ picked n (Symbol.Fixed at text) ss
        (option_map (λ k. next k at) o)
    by n at text ss None = refl
    by n at text ss (Some k) = refl

    goes : (n : ℕ) (s : Symbol) (ss : List Symbol) → worded table next n (s ∷ ss) ≡ picked n s ss (word_pick table next s)
    goes n (Symbol.Fixed at text) ss = by n at text ss (looked_up table text)
    goes n (Symbol.Named at text) ss = refl
    goes n (Symbol.Number at value) ss = refl
    goes n (Symbol.Quoted at text) ss = refl

    each : (s : Symbol) (reads : Reading A) → word_pick table next s ≡ Some reads → Behind spelled good ends (OfFirst table Of s) s reads
    each (Symbol.Fixed at text) reads e = word_each spelled good ends table next Of entries at text reads e
    each (Symbol.Named at text) reads e = none_is_none reads e
    each (Symbol.Number at value) reads e = none_is_none reads e
    each (Symbol.Quoted at text) reads e = none_is_none reads e

-- ---- single symbols

-- what is found at a single symbol is behind it
pub single_behind : {A : Type 0} (spelled : A → List Symbol) (good : A → Type 0) (s : Symbol) (x : A) → spelled x ≡ s ∷ [] → good x
    → Behind spelled good Anywhere (λ y. y ≡ x) s (given x)
single_behind spelled good s x is fits = record {
  reading = given_law (λ y. beyond (spelled y)) x (ap beyond is);
  front = λ y h. subst (λ z. spelled z ≡ s ∷ beyond (spelled z)) (sym h) (is ∙ ap (λ u. s ∷ beyond u) (sym is));
  to = λ y h. subst good (sym h) fits;
}

-- a reading that takes one symbol, or is stuck there
pub single_law : {A : Type 0} (spelled : A → List Symbol) (reads : Reading A) (pick : Symbol → Option A) → ((n : ℕ) → reads n [] ≡ Stuck [])
    → ((n : ℕ) (s : Symbol) (ss : List Symbol) → reads n (s ∷ ss) ≡ picked n s ss (option_map given (pick s)))
    → ((s : Symbol) (x : A) → pick s ≡ Some x → spelled x ≡ s ∷ []) → ((y : A) → (s : Symbol) × (pick s ≡ Some y)) → A → IsReading spelled Any Anywhere reads
single_law {A = A} spelled reads pick empty goes is first thing =
    told_law spelled Any Anywhere reads (λ s. option_map given (pick s)) (λ s y. pick s ≡ Some y) empty goes each
    (λ y g. let f = first y in (f.0, given y, ap (option_map given) f.1, f.1)) thing tt
  where
    each : (s : Symbol) (next : Reading A) → option_map given (pick s) ≡ Some next → Behind spelled Any Anywhere (λ y. pick s ≡ Some y) s next
    each s next e = by (pick s) refl e
      where
        by : (o : Option A) → pick s ≡ o → option_map given o ≡ Some next → Behind spelled Any Anywhere (λ y. pick s ≡ Some y) s next
        by None i f = none_is_none next f
        by (Some x) i f =
            let b = single_behind spelled Any s x (is s x i) tt in
            subst (λ z. Behind spelled Any Anywhere (λ y. pick s ≡ Some y) s z) (some_is (given x) next f)
            (record {
              reading = other_law (λ y. beyond (spelled y)) (λ y. y ≡ x) (λ y. pick s ≡ Some y) Anywhere Anywhere (given x) (λ y h. i ∙ ap (λ z. Some z) (sym h))
                  (λ y h. some_is y x (sym h ∙ i)) (λ y r h. h) (λ y r h. h) b.reading;
              front = λ y h. b.front y (some_is y x (sym h ∙ i));
              to = λ y h. tt;
            })
