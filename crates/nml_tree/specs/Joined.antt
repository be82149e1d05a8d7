-- Texts with one blank between two, and so the text that symbols come to.
use Rattle.std.specs.Prelude.{ℕ, List, [], ◌∷◌, ◌++◌, map}
use Rattle.std.specs.Fmt.{decimal}
use Rattle.nml_tree.specs.Symbol.{Symbol, Fixed, Named, Number, Quoted}

-- each of these behind a blank
abbrev pub each_spaced : List (List ℕ) → List ℕ
each_spaced [] = []
each_spaced (p ∷ ps) = 32 ∷ p ++ each_spaced ps

-- these with a blank between two
abbrev pub spaced : List (List ℕ) → List ℕ
spaced [] = []
spaced (p ∷ ps) = p ++ each_spaced ps

-- a number in decimal, a string between its quotes, a keyword, a mark or a name by its letters
abbrev pub symbol_text : Symbol → List ℕ
symbol_text (Fixed at text) = text
symbol_text (Named at text) = text
symbol_text (Number at value) = decimal value
symbol_text (Quoted at text) = 34 ∷ text ++ 34 ∷ []

-- the texts of the symbols with one blank between two
abbrev pub joined : List Symbol → List ℕ
joined symbols = spaced (map symbol_text symbols)
