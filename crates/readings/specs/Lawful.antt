-- What a reading owes to what it reads: each reading is one of a thing that is spelled, where something may stand behind it.
use Rattle.std.specs.Prelude.{◌≡◌, ℕ, ◌<◌, ◌≤◌, List, [], ◌∷◌, ◌++◌, length, Option, Some, None}
use Rattle.readings.specs.Symbol.{Symbol}
use Rattle.readings.specs.Reading.{Read, Found, Stuck, Unread, behind}
use Rattle.readings.specs.Readings.{Reading}

-- what a reading leaves
abbrev pub rest_of : {A : Type 0} → Read A → List Symbol
rest_of (Found x rest) = rest
rest_of (Stuck rest) = rest
rest_of Unread = []

-- the same with another rest
abbrev pub with_rest : {A : Type 0} → Read A → List Symbol → Read A
with_rest (Found x rest) s = Found x s
with_rest (Stuck rest) s = Stuck s
with_rest Unread s = Unread

-- the reading of these symbols, and of those that agree with them up to the first that is left
pub record Locally {A : Type 0} (reads : List Symbol → Read A) (ss : List Symbol) (a : Read A) : Type 0 where
  pub front : List Symbol
  pub whole : ss ≡ front ++ rest_of a
  pub same : (c : Symbol) (r s : List Symbol) → rest_of a ≡ c ∷ r → reads (front ++ (c ∷ s)) ≡ with_rest a (c ∷ s)

abbrev pub IsLocal : {A : Type 0} → (List Symbol → Read A) → Type 0
IsLocal reads = (ss : List Symbol) → Locally reads ss (reads ss)

-- something was found, or the reading is stuck
abbrev pub IsTold : {A : Type 0} → Read A → Type 0
IsTold (Found x rest) = Unit {0}
IsTold (Stuck rest) = Unit {0}
IsTold Unread = ⊥

-- with more than m calls it comes to one thing, which is told
pub record Settles {A : Type 0} (m : ℕ) (reads : ℕ → Read A) : Type 0 where
  pub comes : Read A
  pub told : IsTold comes
  pub is : (n : ℕ) → m < n → reads n ≡ comes

-- from some number of calls on
abbrev pub Eventually : (ℕ → Type 0) → Type 0
Eventually P = (m : ℕ) × ((n : ℕ) → m ≤ n → P n)

-- what stands before the rest goes on to be something that may be read there
pub record Begins {A : Type 0} (spelled : A → List Symbol) (good : A → Type 0) (ss rest : List Symbol) : Type 0 where
  pub front : List Symbol
  pub further : List Symbol
  pub thing : A
  pub left : ss ≡ front ++ rest
  pub fits : good thing
  pub whole : front ++ further ≡ spelled thing

-- what is found
pub record Reads {A : Type 0} (spelled : A → List Symbol) (good : A → Type 0) (ends : A → List Symbol → Type 0) (ss : List Symbol) (x : A)
    (rest : List Symbol) : Type 0 where
  pub fits : good x
  pub is_end : ends x rest
  pub whole : ss ≡ spelled x ++ rest

-- The reading finds what is spelled so and may be read there, with what may stand behind it, and nothing else. What it finds doesn't depend on
-- what stands behind the next symbol. Where it is stuck, the symbols before go on to be such a thing. With more calls than there are symbols it is
-- told, and no further call changes what it comes to.
pub record IsLawful {A : Type 0} (spelled : A → List Symbol) (good : A → Type 0) (ends : A → List Symbol → Type 0) (reads : Reading A) : Type 0 where
  pub sound : (n : ℕ) (ss : List Symbol) (x : A) (rest : List Symbol) → reads n ss ≡ Found x rest → Reads spelled good ends ss x rest
  pub complete : (x : A) (rest : List Symbol) → good x → ends x rest → Eventually (λ n. reads n (spelled x ++ rest) ≡ Found x rest)
  pub local : (n : ℕ) → IsLocal (reads n)
  pub viable : (n : ℕ) (ss rest : List Symbol) → reads n ss ≡ Stuck rest → Begins spelled good ss rest
  pub settled : (ss : List Symbol) → Settles (length ss) (λ n. reads n ss)

-- a lawful reading of things of which there is one
pub record IsReading {A : Type 0} (spelled : A → List Symbol) (good : A → Type 0) (ends : A → List Symbol → Type 0) (reads : Reading A) : Type 0 where
  pub law : IsLawful spelled good ends reads
  pub thing : A
  pub fits : good thing

-- all may be read
abbrev pub Any : {A : Type 0} → A → Type 0
Any x = Unit {0}

-- and before all symbols
abbrev pub Anywhere : {A : Type 0} → A → List Symbol → Type 0
Anywhere x r = Unit {0}

-- ---- made into something else

-- what is made of something good
abbrev pub IsMade : {A B : Type 0} → (A → Type 0) → (A → B) → B → Type 0
IsMade {A = A} good make y = (x : A) × good x × (make x ≡ y)

-- ---- what may be absent

-- nothing, or the mark and what stands behind it
abbrev pub optional_spelling : {A : Type 0} → List ℕ → (A → List Symbol) → Option (ℕ × A) → List Symbol
optional_spelling text spelled None = []
optional_spelling text spelled (Some (at, x)) = Symbol.Fixed at text ∷ spelled x

-- what is absent may be read
abbrev pub optional_good : {A : Type 0} → (A → Type 0) → Option (ℕ × A) → Type 0
optional_good good None = Unit {0}
optional_good good (Some (at, x)) = good x

-- where it is absent the mark is not next
abbrev pub optional_ends : {A : Type 0} → List ℕ → (A → List Symbol → Type 0) → Option (ℕ × A) → List Symbol → Type 0
optional_ends text ends None r = behind text r ≡ None
optional_ends text ends (Some (at, x)) r = ends x r

-- ---- lists

-- what the last wants behind it
abbrev pub Last : {A : Type 0} → (A → List Symbol → Type 0) → List (ℕ × A) → List Symbol → Type 0
Last ends [] r = Unit {0}
Last ends ((at, x) ∷ []) r = ends x r
Last ends ((at, x) ∷ (y ∷ ys)) r = Last ends (y ∷ ys) r

-- they end where the mark is not next and the last may end
abbrev pub list_ends : {A : Type 0} → List ℕ → (A → List Symbol → Type 0) → List (ℕ × A) → List Symbol → Type 0
list_ends text ends xs r = (behind text r ≡ None) × Last ends xs r
