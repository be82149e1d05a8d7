-- What a sink took.
use Rattle.std.specs.Prelude.{◌≡◌, ℕ, List, ◌++◌, Option, Some, None}

-- these bytes came behind those from before, where that is told
abbrev pub Took : Option (List ℕ) → Option (List ℕ) → List ℕ → Type 0
Took None None bytes = Unit {0}
Took (Some old) (Some new) bytes = new ≡ old ++ bytes
Took None (Some new) bytes = ⊥
Took (Some old) None bytes = ⊥

-- a front of these bytes
abbrev pub IsFront : List ℕ → List ℕ → Type 0
IsFront front bytes = (rest : List ℕ) × (front ++ rest ≡ bytes)

-- some front of these bytes came
abbrev pub TookFront : Option (List ℕ) → Option (List ℕ) → List ℕ → Type 0
TookFront old new bytes = (front : List ℕ) × IsFront front bytes × Took old new front
