-- What a speller has written so far, for private contracts.
use Rattle.std.specs.Prelude.{ℕ, List, [], ◌∷◌, ◌++◌}
use Rattle.c_tree.specs.Symbol.{Symbol}
use Rattle.c_tree.specs.Formula.{Formula, Unary, Binary}
use Rattle.c_tree.specs.Spell.{prefix_mark, binary_mark}
use Rattle.c_tree.specs.Joined.{symbol_text}

-- the text of each symbol, and a blank behind it
abbrev pub ended : List Symbol → List ℕ
ended [] = []
ended (s ∷ ss) = symbol_text s ++ 32 ∷ ended ss

-- the mark that stands outermost, where a case of formulas has several
abbrev pub outer_mark : Formula → List ℕ
outer_mark (Unary op at x) = prefix_mark op
outer_mark (Binary op x at y) = binary_mark op
outer_mark _ = []
