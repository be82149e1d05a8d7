-- Readings put together: one behind the other, made into something else, lists, and what stands behind a keyword.
use Rattle.std.specs.Prelude.{ℕ, zero, suc, List, [], ◌∷◌, Option, Some, None}
use Rattle.readings.specs.Symbol.{Symbol}
use Rattle.readings.specs.Reading.{Read, Found, Stuck, Unread, read_on, looked_up, behind, mark}

-- a reading of something by at most so many calls below one another
abbrev pub Reading : Type 0 → Type 0
Reading A = ℕ → List Symbol → Read A

infixr 20 ◌>>>◌
-- one thing and what stands behind it
abbrev pub ◌>>>◌ : {A B : Type 0} → Reading A → Reading B → Reading (A × B)
(first >>> second) n ss = read_on (first n ss) (λ x rest. read_on (second n rest) (λ y s. Found (x, y) s))

-- what is found is made into something else
abbrev pub made : {A B : Type 0} → (A → B) → Reading A → Reading B
made make reads n ss = read_on (reads n ss) (λ x rest. Found (make x) rest)

-- nothing is read: this is found before all symbols
abbrev pub given : {A : Type 0} → A → Reading A
given x n ss = Found x ss

-- ---- single symbols

-- this keyword or mark, for which its place stands
abbrev pub sign : List ℕ → Reading ℕ
sign text n ss = mark text ss

-- ---- what may be absent, and lists

-- this much behind a mark, if that is next
abbrev pub optional_from : {A : Type 0} → Reading A → ℕ → List Symbol → Option (ℕ × List Symbol) → Read (Option (ℕ × A))
optional_from reads n ss None = Found None ss
optional_from reads n ss (Some (at, rest)) = read_on (reads n rest) (λ x s. Found (Some (at, x)) s)

abbrev pub optional : {A : Type 0} → List ℕ → Reading A → Reading (Option (ℕ × A))
optional text reads n ss = optional_from reads n ss (behind text ss)

-- the first of things each of which stands behind a mark, if there is one, and those behind it
abbrev pub further_from : {A : Type 0} → Reading A → (List Symbol → Read (List (ℕ × A))) → ℕ → List Symbol → Option (ℕ × List Symbol) → Read (List (ℕ × A))
further_from reads others n ss None = Found [] ss
further_from reads others n ss (Some (at, rest)) = read_on (reads n rest) (λ x s. read_on (others s) (λ xs t. Found ((at, x) ∷ xs) t))

-- things each of which stands behind this mark, as long as that is next
abbrev pub further : {A : Type 0} → List ℕ → Reading A → Reading (List (ℕ × A))
further text reads zero ss = Unread
further text reads (suc n) ss = further_from reads (λ s. further text reads n s) n ss (behind text ss)

-- things one behind the other, to the end
abbrev pub to_end : {A : Type 0} → Reading A → Reading (List A)
to_end reads zero ss = Unread
to_end reads (suc n) [] = Found [] []
to_end reads (suc n) (s ∷ ss) = read_on (reads n (s ∷ ss)) (λ x r. read_on (to_end reads n r) (λ xs t. Found (x ∷ xs) t))

-- ---- what begins with one of some words

-- what stands behind this word; `here` are the symbols from it on
abbrev pub worded_from : {K A : Type 0} → (K → ℕ → Reading A) → ℕ → List Symbol → ℕ → List Symbol → Option K → Read A
worded_from behind_word n here at ss None = Stuck here
worded_from behind_word n here at ss (Some k) = behind_word k at n ss

-- one of the words of a table, and what stands behind it, which knows the word's place
abbrev pub worded : {K A : Type 0} → List (List ℕ × K) → (K → ℕ → Reading A) → Reading A
worded table behind_word n [] = Stuck []
worded table behind_word n (Symbol.Fixed at text ∷ ss) = worded_from behind_word n (Symbol.Fixed at text ∷ ss) at ss (looked_up table text)
worded table behind_word n (Symbol.Named at text ∷ ss) = Stuck (Symbol.Named at text ∷ ss)
worded table behind_word n (Symbol.Number at value ∷ ss) = Stuck (Symbol.Number at value ∷ ss)
worded table behind_word n (Symbol.Quoted at text ∷ ss) = Stuck (Symbol.Quoted at text ∷ ss)
