-- What a writer is handed.
use Rattle.std.specs.Prelude.{ℕ, List, Option}
use Rattle.std.specs.Io.KnownBytes.{Appends}
use Rattle.nk_outside.specs.Taken.{IsFront}

-- some front of these bytes came behind those that a writer holds, where that is known
abbrev pub AppendsFront : Option (List ℕ) → Option (List ℕ) → List ℕ → Type 0
AppendsFront old new bytes = (front : List ℕ) × IsFront front bytes × Appends old new front
