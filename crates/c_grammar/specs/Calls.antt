-- Reading the arguments of a call that is a statement.
use Rattle.std.specs.Prelude.{◌≡◌, ℕ, zero, suc, List, Option, Some, None, codes}
use Rattle.c_tree.specs.declared.names.Name.{Name}
use Rattle.readings.specs.Symbol.{Symbol, beyond}
use Rattle.readings.specs.Reading.{Read, behind}
use Rattle.readings.specs.Readings.{Reading, ◌>>>◌, made, given, sign}
use Rattle.readings.specs.Lawful.{IsMade}
use Rattle.c_tree.specs.Formula.{Formula, Called, CalledWith, further}
use Rattle.c_tree.specs.Spell.{formula_spelling}
use Rattle.c_grammar.specs.Reading.{IsGood}
use Rattle.c_grammar.specs.Until.{until, until_good}
use Rattle.c_grammar.specs.Declarations.{expression}

-- the first argument, and further ones up to the parenthesis that closes
abbrev pub Arguments : Type 0
Arguments = Formula × (List (ℕ × Formula) × ℕ)

-- the call that they make
abbrev pub call_of : Name → ℕ → Arguments → Formula
call_of x p (e, (xs, q)) = CalledWith x p e (further xs) q

abbrev pub with_arguments : ℕ → Name → ℕ → Reading Formula
with_arguments room x p = made (call_of x p) (expression room >>> until (codes ")") (sign (codes ",") >>> expression room))

-- what stands behind `NAME (`: the last is what stands behind `)`, if that is next
abbrev pub called_from : ℕ → Name → ℕ → ℕ → List Symbol → Option (ℕ × List Symbol) → Read Formula
called_from room x p n ss None = with_arguments room x p n ss
called_from room x p n ss (Some (q, rest)) = given (Called x p q) n rest

-- a call whose arguments are of at most this depth
abbrev pub called : ℕ → Name → ℕ → Reading Formula
called room x p n ss = called_from room x p n ss (behind (codes ")") ss)

-- the same with room for none: where there is no room, what is no `)` fits nothing
abbrev pub called_within : ℕ → Name → ℕ → Reading Formula
called_within zero x p = made (λ q. Called x p q) (sign (codes ")"))
called_within (suc room) x p = called (suc room) x p

-- the arguments are good
abbrev pub arguments_good : ℕ → Arguments → Type 0
arguments_good room a = IsGood 0 room a.0 × until_good (λ (p : ℕ × Formula). IsGood 0 room p.1) a.1

-- a call of this name
pub data IsCallOf (room : ℕ) (x : Name) (p : ℕ) (y : Formula) : Type 0 where
  Alone : (q : ℕ) → y ≡ Called x p q → IsCallOf room x p y
  With : IsMade (arguments_good room) (call_of x p) y → IsCallOf room x p y

-- its symbols behind `NAME (`
abbrev pub inside_call : Formula → List Symbol
inside_call y = beyond (beyond (formula_spelling y))
