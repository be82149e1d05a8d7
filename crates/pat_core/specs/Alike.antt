-- In what all closures of one machine agree: the reach, and of each operation whether it has a Cert, of how many words and by which pattern.
use Rattle.std.specs.Prelude.{◌≡◌, List, [], ◌∷◌, Option, Some, None}
use Rattle.pat_core.specs.Cert.{Cert, words}

-- two entries of one operation
abbrev pub IsAlike : Option Cert → Option Cert → Type 0
IsAlike None None = Unit {0}
IsAlike (Some c) (Some d) = (words c ≡ words d) × (c.pattern ≡ d.pattern)
IsAlike _ _ = ⊥

-- the entries of two closures
abbrev pub AreAlike : List (Option Cert) → List (Option Cert) → Type 0
AreAlike [] [] = Unit {0}
AreAlike (c ∷ cs) (d ∷ ds) = IsAlike c d × AreAlike cs ds
AreAlike _ _ = ⊥
