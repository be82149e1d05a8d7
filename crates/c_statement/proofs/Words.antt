-- What begins with one of some words, where the first symbol is a word or is none.
use Rattle.std.proofs.Common.{ℕ, List, [], ◌∷◌, ◌++◌, length, map, Bool, true, false, Option, Some, None, if◌then◌else◌, ◌≡◌, refl, sym, ap, subst}
use Rattle.std.specs.Prelude.{Result}
use Rattle.std.proofs.lemmas.List.{length-map}
use Rattle.nk_base.specs.Text.{text_eq}
use Rattle.readings.specs.Symbol.{Symbol}
use Rattle.readings.specs.Reading.{Read, Stuck, looked_up}
use Rattle.readings.specs.Readings.{Reading, worded, worded_from}
use Rattle.readings.specs.declared.sign.Sign.{Sign}
use Rattle.readings.specs.declared.stop.Stop.{Stop}
use Rattle.readings.specs.declared.stop.Stop.TheVariants as stops
use Rattle.readings.specs.Seen.{seen, Fails, Says}
use Rattle.readings.proofs.Saying.{at_once, says_alike}
use Rattle.c_statement.specs.Seen.{HasNoWord}

-- ---- where a reading is stuck before all symbols

pub stuck_here : {A : Type 0} (reads : Reading A) (ss : List Sign) → ((n : ℕ) → reads n (map seen ss) ≡ Stuck (map seen ss)) → Fails (stops.Stuck (length ss)) reads (map seen ss)
stuck_here reads ss h = (map seen ss, length-map ss seen, at_once h)

-- ---- one of some words

wordless : {K A : Type 0} (table : List (List ℕ × K)) (behind_word : K → ℕ → Reading A) (n : ℕ) (ss : List Symbol) → HasNoWord ss → worded table behind_word n ss ≡ Stuck ss
wordless table behind_word n [] h = refl
wordless table behind_word n (Symbol.Fixed at text ∷ ss) h = absurd h
wordless table behind_word n (Symbol.Named at text ∷ ss) h = refl
wordless table behind_word n (Symbol.Number at value ∷ ss) h = refl
wordless table behind_word n (Symbol.Quoted at text ∷ ss) h = refl

-- no word is in front
pub no_word : {K A : Type 0} (table : List (List ℕ × K)) (behind_word : K → ℕ → Reading A) (ss : List Sign) → HasNoWord (map seen ss)
    → Fails (stops.Stuck (length ss)) (worded table behind_word) (map seen ss)
no_word table behind_word ss h = stuck_here (worded table behind_word) ss (λ n. wordless table behind_word n (map seen ss) h)

-- another word is
other : {K A : Type 0} (table : List (List ℕ × K)) (behind_word : K → ℕ → Reading A) (n : ℕ) (ss : List Symbol) (at : ℕ) (text : List ℕ) (rest : List Symbol) (o : Option K)
    → ss ≡ Symbol.Fixed at text ∷ rest → o ≡ looked_up table text → worded table behind_word n ss ≡ worded_from behind_word n ss at rest o
other table behind_word n ss at text rest o is e =
    subst (λ us. worded table behind_word n us ≡ worded_from behind_word n us at rest o) (sym is) (ap (worded_from behind_word n (Symbol.Fixed at text ∷ rest) at rest) (sym e))

pub unknown_word : {K A : Type 0} (table : List (List ℕ × K)) (behind_word : K → ℕ → Reading A) (ss : List Sign) (at : ℕ) (text : List ℕ) (rest : List Symbol)
    → map seen ss ≡ Symbol.Fixed at text ∷ rest → None ≡ looked_up table text → Fails (stops.Stuck (length ss)) (worded table behind_word) (map seen ss)
unknown_word table behind_word ss at text rest is e = stuck_here (worded table behind_word) ss (λ n. other table behind_word n (map seen ss) at text rest None is e)

-- a word of the table is
pub word_says : {K A B : Type 0} (found : B → Read A) (r : Result B Stop) (table : List (List ℕ × K)) (behind_word : K → ℕ → Reading A) (ss : List Symbol) (at : ℕ) (text : List ℕ) (rest : List Symbol) (k : K)
    → ss ≡ Symbol.Fixed at text ∷ rest → Some k ≡ looked_up table text → Says found r (behind_word k at) rest → Says found r (worded table behind_word) ss
word_says found r table behind_word ss at text rest k is e h =
    says_alike found r (behind_word k at) (worded table behind_word) rest ss (λ n. other table behind_word n ss at text rest (Some k) is e) h

-- ---- tables one behind the other

abbrev pub or_else : {K : Type 0} → Option K → Option K → Option K
or_else None o = o
or_else (Some x) o = Some x

pub looked_up_more : {K : Type 0} (table others : List (List ℕ × K)) (text : List ℕ) → looked_up (table ++ others) text ≡ or_else (looked_up table text) (looked_up others text)
looked_up_more [] others text = refl
looked_up_more {K = K} ((word, x) ∷ table) others text = by (looked_up_more table others text) (text_eq text word)
  where
    by : looked_up (table ++ others) text ≡ or_else (looked_up table text) (looked_up others text) → (b : Bool)
        → (if b then Some x else looked_up (table ++ others) text) ≡ or_else (if b then Some x else looked_up table text) (looked_up others text)
    by h true = refl
    by h false = h
