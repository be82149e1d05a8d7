-- What some lists of symbols are read as.
use Rattle.std.specs.Prelude.{◌≡◌, refl, ℕ, List, [], ◌∷◌, codes}
use Rattle.readings.specs.Symbol.{Fixed, Named as NamedSymbol, Number}
use Rattle.c_tree.specs.declared.operator.Bin.TheVariants as bin
use Rattle.c_tree.specs.Formula.{Formula, Prefix, Numeral, Named, Indexed, Called, CalledWith, Paren, Unary, Binary, NoMore, More}
use Rattle.readings.specs.Reading.{Found, Stuck}
use Rattle.c_grammar.specs.Reading.{climb, reading}

abbrev named : ℕ → List ℕ → Formula
named at text = Named (record { at = at; text = text })

abbrev numeral : ℕ → ℕ → Formula
numeral at value = Numeral (record { at = at; value = value })

-- `a - b - c` is `( a - b ) - c` without the parentheses
pub left_first : climb 20 0 9 (NamedSymbol 0 (codes "a") ∷ Fixed 2 (codes "-") ∷ NamedSymbol 4 (codes "b") ∷ Fixed 6 (codes "-") ∷ NamedSymbol 8 (codes "c") ∷ [])
    ≡ Found (Binary bin.Sub (Binary bin.Sub (named 0 (codes "a")) 2 (named 4 (codes "b"))) 6 (named 8 (codes "c"))) []
left_first = refl

-- `a - b * 2`: the stronger operator goes first
pub stronger_first : climb 20 0 9 (NamedSymbol 0 (codes "a") ∷ Fixed 2 (codes "-") ∷ NamedSymbol 4 (codes "b") ∷ Fixed 6 (codes "*") ∷ Number 8 2 ∷ [])
    ≡ Found (Binary bin.Sub (named 0 (codes "a")) 2 (Binary bin.Mul (named 4 (codes "b")) 6 (numeral 8 2))) []
stronger_first = refl

-- with room for two nodes in one branch, the second operator of `a - b - c` is one too deep
pub left_too_deep : climb 20 0 2 (NamedSymbol 0 (codes "a") ∷ Fixed 2 (codes "-") ∷ NamedSymbol 4 (codes "b") ∷ Fixed 6 (codes "-") ∷ NamedSymbol 8 (codes "c") ∷ [])
    ≡ Stuck (Fixed 6 (codes "-") ∷ NamedSymbol 8 (codes "c") ∷ [])
left_too_deep = refl

-- `f ( )` and `f ( a , - 1 ) ;`
pub call_alone : reading 0 9 (NamedSymbol 0 (codes "f") ∷ Fixed 1 (codes "(") ∷ Fixed 2 (codes ")") ∷ []) ≡ Found (Called (record { at = 0; text = codes "f" }) 1 2) []
call_alone = refl

pub call_with : reading 0 9
    (NamedSymbol 0 (codes "f") ∷ Fixed 1 (codes "(") ∷ NamedSymbol 2 (codes "a") ∷ Fixed 3 (codes ",") ∷ Fixed 5 (codes "-") ∷ Number 6 1 ∷ Fixed 7 (codes ")") ∷ Fixed 8 (codes ";") ∷ [])
    ≡ Found (CalledWith (record { at = 0; text = codes "f" }) 1 (named 2 (codes "a")) (More 3 (Unary Prefix.Neg 5 (numeral 6 1)) NoMore) 7) (Fixed 8 (codes ";") ∷ [])
call_with = refl

-- with room for one node a call has no arguments, and is stuck at the first of them
pub call_too_deep : reading 0 1 (NamedSymbol 0 (codes "f") ∷ Fixed 1 (codes "(") ∷ NamedSymbol 2 (codes "a") ∷ Fixed 3 (codes ")") ∷ []) ≡ Stuck (NamedSymbol 2 (codes "a") ∷ Fixed 3 (codes ")") ∷ [])
call_too_deep = refl

-- `f ( a , )` is stuck at the parenthesis, `f ( a b` at `b`
pub no_argument : reading 0 9 (NamedSymbol 0 (codes "f") ∷ Fixed 1 (codes "(") ∷ NamedSymbol 2 (codes "a") ∷ Fixed 3 (codes ",") ∷ Fixed 4 (codes ")") ∷ []) ≡ Stuck (Fixed 4 (codes ")") ∷ [])
no_argument = refl

pub no_comma : reading 0 9 (NamedSymbol 0 (codes "f") ∷ Fixed 1 (codes "(") ∷ NamedSymbol 2 (codes "a") ∷ NamedSymbol 4 (codes "b") ∷ []) ≡ Stuck (NamedSymbol 4 (codes "b") ∷ [])
no_comma = refl

-- `( a ) [`: an index stands behind a name alone
pub no_index : reading 0 9 (Fixed 0 (codes "(") ∷ NamedSymbol 2 (codes "a") ∷ Fixed 4 (codes ")") ∷ Fixed 6 (codes "[") ∷ []) ≡ Found (Paren 0 (named 2 (codes "a")) 4) (Fixed 6 (codes "[") ∷ [])
no_index = refl

-- `a [ i ] + 1`, and `a [` ends too early
pub index_read : reading 0 9
    (NamedSymbol 0 (codes "a") ∷ Fixed 1 (codes "[") ∷ NamedSymbol 2 (codes "i") ∷ Fixed 3 (codes "]") ∷ Fixed 5 (codes "+") ∷ Number 7 1 ∷ [])
    ≡ Found (Binary bin.Add (Indexed (record { at = 0; text = codes "a" }) 1 (named 2 (codes "i")) 3) 5 (numeral 7 1)) []
index_read = refl

pub open_index : reading 0 9 (NamedSymbol 0 (codes "a") ∷ Fixed 1 (codes "[") ∷ []) ≡ Stuck []
open_index = refl
