-- Whole texts: lists of things, and trees that symbols begin or stop to begin. That symbols spell a tree is said by the language.
use Rattle.std.specs.Prelude.{◌≡◌, List, [], ◌∷◌, ◌++◌}
use Rattle.readings.specs.Symbol.{Symbol}

-- each of the things may be read
abbrev pub Goods : {A : Type 0} → (A → Type 0) → List A → Type 0
Goods good [] = Unit {0}
Goods good (x ∷ xs) = good x × Goods good xs

-- some tree has these symbols and others behind them
pub record BeginsOne {D : Type 0} (Spells : List Symbol → D → Type 0) (symbols : List Symbol) : Type 0 where
  pub further : List Symbol
  pub tree : D
  pub spells : Spells (symbols ++ further) tree

-- no tree has the symbols in front and the first of the others, or the symbols in front alone where there are no others
abbrev pub EndsBefore : {D : Type 0} → (List Symbol → D → Type 0) → List Symbol → List Symbol → Type 0
EndsBefore {D = D} Spells front [] = (d : D) → Spells front d → ⊥
EndsBefore Spells front (s ∷ ss) = BeginsOne Spells (front ++ s ∷ []) → ⊥

-- the symbols in front begin a tree, and with those that are left they stop to
pub record StopsIn {D : Type 0} (Spells : List Symbol → D → Type 0) (symbols left : List Symbol) : Type 0 where
  pub front : List Symbol
  pub whole : symbols ≡ front ++ left
  pub begins : BeginsOne Spells front
  pub stops : EndsBefore Spells front left
