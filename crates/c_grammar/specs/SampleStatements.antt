-- What some statements are read as.
use Rattle.std.specs.Prelude.{◌≡◌, refl, ℕ, ◌+◌, List, [], ◌∷◌, ◌++◌, Some, None, codes}
use Rattle.readings.specs.Symbol.{Symbol, Fixed, Named as NamedSymbol, Number}
use Rattle.c_tree.specs.declared.names.Name.{Name}
use Rattle.c_tree.specs.declared.names.TypeWord.TheVariants as type_word
use Rattle.c_tree.specs.declared.statement.AssignMark.TheVariants as store
use Rattle.c_tree.specs.declared.statement.StepMark.TheVariants as change
use Rattle.c_tree.specs.Formula.{Formula, Numeral, Named, Called}
use Rattle.c_tree.specs.Statement.{Scalar, Initial, Assign, Step, Invoke, Declares, Braces, Empty, Simply, Break, Return, If, IfElse, Do, For, Nothing, Declare, Then}
use Rattle.readings.specs.Reading.{Found, Stuck}
use Rattle.c_grammar.specs.ReadingStatements.{statement_read, block_body}

abbrev name_at : ℕ → List ℕ → Name
name_at at text = record { at = at; text = text }

abbrev named : ℕ → Formula
named at = Named (name_at at (codes "a"))

-- `( a )`, where the first stands
abbrev asked : ℕ → List Symbol
asked at = Fixed at (codes "(") ∷ NamedSymbol (at + 1) (codes "a") ∷ Fixed (at + 2) (codes ")") ∷ []

-- `if (a) if (a) ; else ;`: the `else` belongs to the nearest `if`
pub dangling : statement_read 5 20 (Fixed 0 (codes "if") ∷ (asked 3 ++ (Fixed 7 (codes "if") ∷ (asked 10 ++ (Fixed 14 (codes ";") ∷ Fixed 16 (codes "else") ∷ Fixed 21 (codes ";") ∷ [])))))
    ≡ Found (If 0 3 (named 4) 5 (IfElse 7 10 (named 11) 12 (Empty 14) 16 (Empty 21))) []
unfolding statement_read block_body
dangling = refl

-- `if (a) { if (a) ; } else ;`
pub braced : statement_read 5 20 (Fixed 0 (codes "if") ∷ (asked 3 ++ (Fixed 7 (codes "{") ∷ Fixed 9 (codes "if") ∷ (asked 12 ++ (Fixed 16 (codes ";") ∷ Fixed 18 (codes "}") ∷ Fixed 20 (codes "else") ∷ Fixed 25 (codes ";") ∷ [])))))
    ≡ Found (IfElse 0 3 (named 4) 5 (Braces 7 (Then (If 9 12 (named 13) 14 (Empty 16)) Nothing) 18) 20 (Empty 25)) []
unfolding statement_read block_body
braced = refl

-- `else ;` alone is stuck at `else`
pub no_if : statement_read 5 20 (Fixed 0 (codes "else") ∷ Fixed 5 (codes ";") ∷ []) ≡ Stuck (Fixed 0 (codes "else") ∷ Fixed 5 (codes ";") ∷ [])
unfolding statement_read block_body
no_if = refl

-- `for (int a = 1; a; a++) break;`
pub counted : statement_read 5 20
    (Fixed 0 (codes "for") ∷ Fixed 4 (codes "(") ∷ Fixed 5 (codes "int") ∷ NamedSymbol 9 (codes "a") ∷ Fixed 11 (codes "=") ∷ Number 13 1 ∷ Fixed 14 (codes ";")
    ∷ NamedSymbol 16 (codes "a") ∷ Fixed 17 (codes ";") ∷ NamedSymbol 19 (codes "a") ∷ Fixed 20 (codes "++") ∷ Fixed 22 (codes ")") ∷ Fixed 24 (codes "break")
    ∷ Fixed 29 (codes ";") ∷ [])
    ≡ Found (For 0 4 (Some (Declares (type_word.Int 5) (Initial (name_at 9 (codes "a")) 11 (Numeral (record { at = 13; value = 1 }))))) 14 (Some (named 16)) 17
    (Some (Step (name_at 19 (codes "a")) None (change.Up 20))) 22 (Break 24 29)) []
unfolding statement_read block_body
counted = refl

-- `for (;;) ;`, and `do a[1] -= 2; while (a);`
pub for_ever : statement_read 5 20
    (Fixed 0 (codes "for") ∷ Fixed 4 (codes "(") ∷ Fixed 5 (codes ";") ∷ Fixed 6 (codes ";") ∷ Fixed 7 (codes ")") ∷ Fixed 9 (codes ";") ∷ [])
    ≡ Found (For 0 4 None 5 None 6 None 7 (Empty 9)) []
unfolding statement_read block_body
for_ever = refl

pub at_least_once : statement_read 5 20
    (Fixed 0 (codes "do") ∷ NamedSymbol 3 (codes "a") ∷ Fixed 4 (codes "[") ∷ Number 5 1 ∷ Fixed 6 (codes "]") ∷ Fixed 8 (codes "-=") ∷ Number 11 2 ∷ Fixed 12 (codes ";")
    ∷ Fixed 14 (codes "while") ∷ (asked 20 ++ (Fixed 23 (codes ";") ∷ [])))
    ≡ Found (Do 0
    (Simply (Assign (name_at 3 (codes "a")) (Some (4, Numeral (record { at = 5; value = 1 }), 6)) (store.Sub 8) (Numeral (record { at = 11; value = 2 }))) 12)
    14 20 (named 21) 22 23) []
unfolding statement_read block_body
at_least_once = refl

-- `{ int a; a(); }`, the body behind its first brace
pub body_read : block_body 6 20
    (Fixed 2 (codes "int") ∷ NamedSymbol 6 (codes "a") ∷ Fixed 7 (codes ";") ∷ NamedSymbol 9 (codes "a") ∷ Fixed 10 (codes "(") ∷ Fixed 11 (codes ")") ∷ Fixed 12 (codes ";")
    ∷ Fixed 14 (codes "}") ∷ [])
    ≡ Found (
      Declare (record { word = type_word.Int 2; first = Scalar (name_at 6 (codes "a")); rest = []; semicolon = 7 })
          (Then (Simply (Invoke (Called (name_at 9 (codes "a")) 10 11)) 12) Nothing),
      14,
    ) []
unfolding statement_read block_body
body_read = refl

-- An expression that is no call is no statement: `a;` is stuck at the semicolon. So is a statement that ends too early.
pub no_statement : statement_read 5 20 (NamedSymbol 0 (codes "a") ∷ Fixed 1 (codes ";") ∷ []) ≡ Stuck (Fixed 1 (codes ";") ∷ [])
unfolding statement_read block_body
no_statement = refl

pub open_while : statement_read 5 20 (Fixed 0 (codes "while") ∷ asked 6) ≡ Stuck []
unfolding statement_read block_body
open_while = refl

-- with room for one node a statement is `;`, `break;`, `continue;` or `return;`
pub one_node : statement_read 1 20 (Fixed 0 (codes "return") ∷ Fixed 6 (codes ";") ∷ []) ≡ Found (Return 0 None 6) []
unfolding statement_read block_body
one_node = refl

pub no_value : statement_read 1 20 (Fixed 0 (codes "return") ∷ Number 7 1 ∷ Fixed 8 (codes ";") ∷ []) ≡ Stuck (Number 7 1 ∷ Fixed 8 (codes ";") ∷ [])
unfolding statement_read block_body
no_value = refl

pub no_while : statement_read 1 20 (Fixed 0 (codes "while") ∷ []) ≡ Stuck (Fixed 0 (codes "while") ∷ [])
unfolding statement_read block_body
no_while = refl

-- with room for two `a()` is one, and `a = 1` is too deep at its mark; with room for three `a[1]` is, at the bracket; with room for two `{ ; }` is, at `;`
pub call_alone : statement_read 2 20 (NamedSymbol 0 (codes "a") ∷ Fixed 1 (codes "(") ∷ Fixed 2 (codes ")") ∷ Fixed 3 (codes ";") ∷ [])
    ≡ Found (Simply (Invoke (Called (name_at 0 (codes "a")) 1 2)) 3) []
unfolding statement_read block_body
call_alone = refl

pub too_deep : statement_read 2 20 (NamedSymbol 0 (codes "a") ∷ Fixed 2 (codes "=") ∷ Number 4 1 ∷ Fixed 5 (codes ";") ∷ [])
    ≡ Stuck (Fixed 2 (codes "=") ∷ Number 4 1 ∷ Fixed 5 (codes ";") ∷ [])
unfolding statement_read block_body
too_deep = refl

pub deep_index : statement_read 3 20 (NamedSymbol 0 (codes "a") ∷ Fixed 1 (codes "[") ∷ Number 2 1 ∷ []) ≡ Stuck (Fixed 1 (codes "[") ∷ Number 2 1 ∷ [])
unfolding statement_read block_body
deep_index = refl

pub deep_body : statement_read 2 20 (Fixed 0 (codes "{") ∷ Fixed 2 (codes ";") ∷ Fixed 4 (codes "}") ∷ []) ≡ Stuck (Fixed 2 (codes ";") ∷ Fixed 4 (codes "}") ∷ [])
unfolding statement_read block_body
deep_body = refl
