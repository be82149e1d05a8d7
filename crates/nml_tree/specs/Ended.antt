-- What a speller has written so far, for private contracts.
use Rattle.std.specs.Prelude.{ℕ, Bool, true, false, List, [], ◌∷◌, ◌++◌}
use Rattle.nml_tree.specs.Symbol.{Symbol}
use Rattle.nml_tree.specs.Formula.{Formula, Truth, Fitted, Unary, Binary}
use Rattle.nml_tree.specs.Spell.{truth_word, fit_word, prefix_mark, binary_mark}
use Rattle.nml_tree.specs.Joined.{symbol_text}

-- the text of each symbol, and a blank behind it
abbrev pub ended : List Symbol → List ℕ
ended [] = []
ended (s ∷ ss) = symbol_text s ++ 32 ∷ ended ss

-- the word or mark that stands outermost, where a case of formulas has several
abbrev pub outer_word : Formula → List ℕ
outer_word (Truth at b) = truth_word b
outer_word (Fitted f at p n c x q) = fit_word f
outer_word (Unary op at x) = prefix_mark op
outer_word (Binary op x at y) = binary_mark op
outer_word _ = []

-- the formula is an operator with its operands
abbrev pub is_operator : Formula → Bool
is_operator (Unary op at x) = true
is_operator (Binary op x at y) = true
is_operator _ = false
