-- The numbers of the elements of a list that hold, and lists of numbers by a key.
use Rattle.std.specs.Prelude.{ℕ, ◌+◌, Bool, if◌then◌else◌, List, [], ◌∷◌, Option, None, Some}
use Rattle.std.specs.Global.{Vec}
use Rattle.indexmap.specs.IndexMap.{IndexMap, get}

-- in rising order the numbers of those that hold, the first element being number n
abbrev pub numbers_from : {A : Type 0} → (A → Bool) → ℕ → List A → List ℕ
numbers_from holds n [] = []
numbers_from holds n (x ∷ xs) = if holds x then n ∷ numbers_from holds (n + 1) xs else numbers_from holds (n + 1) xs

-- the first element being number 0
abbrev pub numbers_where : {A : Type 0} → (A → Bool) → List A → List ℕ
numbers_where holds xs = numbers_from holds 0 xs

-- the numbers of a list, if there is one
abbrev pub listed : Option (Vec ℕ) → List ℕ
listed None = []
listed (Some v) = v.items

-- the list of the key; none where the map has no such key
abbrev pub list_at : {K S : Type 0} → (K → K → Bool) → IndexMap K (Vec ℕ) S → K → List ℕ
list_at eq m k = listed (get eq m k)
