-- The symbols that a text of a language is cut into, each with its place in the text.
use Rattle.std.specs.Prelude.{ℕ, List, [], ◌∷◌}

-- A keyword is never a name, so the two are told apart. A language that has no strings has no symbol of the last kind.
pub data Symbol : Type 0 where
  Fixed : (at : ℕ) → (text : List ℕ) → Symbol  -- a keyword or a mark
  Named : (at : ℕ) → (text : List ℕ) → Symbol  -- a name
  Number : (at : ℕ) → (value : ℕ) → Symbol  -- a number, by its value
  Quoted : (at : ℕ) → (text : List ℕ) → Symbol  -- a string, without its quotes

-- a keyword or a mark alone
abbrev pub fixed : ℕ → List ℕ → List Symbol
fixed at text = Symbol.Fixed at text ∷ []

-- the place of a symbol
abbrev pub place : Symbol → ℕ
place (Symbol.Fixed at text) = at
place (Symbol.Named at text) = at
place (Symbol.Number at value) = at
place (Symbol.Quoted at text) = at

-- the place of the first symbol, or the end where there is none
abbrev pub first_place : ℕ → List Symbol → ℕ
first_place end [] = end
first_place end (s ∷ ss) = place s

-- the symbols behind the first
abbrev pub beyond : List Symbol → List Symbol
beyond [] = []
beyond (x ∷ xs) = xs
