-- Readings of lists that end where a mark is next, and of what may have a tail behind a mark.
use Rattle.std.specs.Prelude.{◌≡◌, ℕ, zero, suc, Bool, IsTrue, IsFalse, List, [], ◌∷◌, ◌++◌, Option, Some, None, flat_map}
use Rattle.readings.specs.Symbol.{Symbol, fixed}
use Rattle.readings.specs.Reading.{Read, Found, Unread, read_on, behind}
use Rattle.readings.specs.Readings.{Reading, ◌>>>◌, made, given, sign}
use Rattle.readings.specs.Lawful.{optional_spelling}
use Rattle.readings.specs.Whole.{Goods}

-- ---- up to a mark

-- where the mark is next the list ends, and else a thing and those behind it are read
abbrev pub until_from : {A : Type 0} → Reading A → (List Symbol → Read (List A × ℕ)) → ℕ → List Symbol → Option (ℕ × List Symbol) → Read (List A × ℕ)
until_from reads others n ss None = read_on (reads n ss) (λ x s. read_on (others s) (λ (xs, at) t. Found (x ∷ xs, at) t))
until_from reads others n ss (Some (at, rest)) = Found ([], at) rest

-- things one behind the other up to this mark, which is read too
abbrev pub until : {A : Type 0} → List ℕ → Reading A → Reading (List A × ℕ)
until text reads zero ss = Unread
until text reads (suc n) ss = until_from reads (λ s. until text reads n s) (suc n) ss (behind text ss)

-- the symbols of the things, and the mark
abbrev pub until_spelling : {A : Type 0} → List ℕ → (A → List Symbol) → List A × ℕ → List Symbol
until_spelling text spelled (xs, at) = flat_map spelled xs ++ fixed at text

-- each of the things may be read
abbrev pub until_good : {A : Type 0} → (A → Type 0) → List A × ℕ → Type 0
until_good good (xs, at) = Goods good xs

-- ---- nothing, or a thing, up to a mark

-- the last is what stands behind the mark, if that is next: then there is nothing before it
abbrev pub ended_from : {A : Type 0} → List ℕ → Reading A → ℕ → List Symbol → Option (ℕ × List Symbol) → Read (Option A × ℕ)
ended_from text reads n ss None = made (λ (x, at). (Some x, at)) (reads >>> sign text) n ss
ended_from text reads n ss (Some (at, rest)) = given (None, at) n rest

-- a thing where the mark is not next, and the mark
abbrev pub ended : {A : Type 0} → List ℕ → Reading A → Reading (Option A × ℕ)
ended text reads n ss = ended_from text reads n ss (behind text ss)

-- the symbols of the thing, where there is one, and the mark
abbrev pub ended_spelling : {A : Type 0} → List ℕ → (A → List Symbol) → Option A × ℕ → List Symbol
ended_spelling text spelled (None, at) = fixed at text
ended_spelling text spelled (Some x, at) = spelled x ++ fixed at text

-- what is absent may be read
abbrev pub ended_good : {A : Type 0} → (A → Type 0) → Option A × ℕ → Type 0
ended_good good (None, at) = Unit {0}
ended_good good (Some x, at) = good x

-- ---- a tail behind a mark

-- what is open may not have the mark behind it, since that would belong to what it ends with
abbrev pub OpenEnds : {A : Type 0} → (A → Bool) → List ℕ → A → List Symbol → Type 0
OpenEnds leaves_open text x r = IsTrue (leaves_open x) → behind text r ≡ None

-- a thing and its tail, where there is one
abbrev pub tailed_spelling : {A B : Type 0} → List ℕ → (A → List Symbol) → (B → List Symbol) → A × Option (ℕ × B) → List Symbol
tailed_spelling text spelled spelled2 (x, o) = spelled x ++ optional_spelling text spelled2 o

-- what is open has none
abbrev pub tailed_good : {A B : Type 0} → (A → Bool) → (A → Type 0) → (B → Type 0) → A × Option (ℕ × B) → Type 0
tailed_good leaves_open good good2 (x, None) = good x
tailed_good leaves_open good good2 (x, Some (at, y)) = good x × good2 y × IsFalse (leaves_open x)
