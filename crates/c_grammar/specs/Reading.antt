-- Reading an expression from the front of a list of symbols.
use Rattle.std.specs.Prelude.{ℕ, zero, suc, ◌-◌, Bool, true, false, if◌then◌else◌, nat_le, ◌≡◌, ◌≤◌, List, [], ◌∷◌, length, Option, Some, None, IsTrue, codes}
use Rattle.c_tree.specs.declared.names.Name.{Name}
use Rattle.c_tree.specs.declared.operator.Bin.{Bin}
use Rattle.c_tree.specs.declared.operator.Bin.TheVariants as bin
use Rattle.readings.specs.Symbol.{Symbol}
use Rattle.readings.specs.Reading.{Read, Found, Stuck, Unread, read_on, looked_up, behind, mark, with_room}
use Rattle.c_tree.specs.Formula.{Prefix, Formula, Further, Numeral, Named, Indexed, Called, CalledWith, Paren, Unary, Binary, NoMore, More}
use Rattle.c_tree.specs.Level.{binary_level, unary_level, level, IsLeveled}
use Rattle.c_tree.specs.Depth.{depth}

-- ---- operators of two operands

-- each with its mark
abbrev pub operators : List (List ℕ × Bin)
operators =
    (codes "||", bin.OrElse) ∷ (codes "&&", bin.AndAlso) ∷ (codes "|", bin.Or) ∷ (codes "^", bin.Xor) ∷ (codes "&", bin.And)
    ∷ (codes "==", bin.Eq) ∷ (codes "!=", bin.Ne) ∷ (codes "<", bin.Lt) ∷ (codes "<=", bin.Le) ∷ (codes ">", bin.Gt) ∷ (codes ">=", bin.Ge)
    ∷ (codes "<<", bin.Shl) ∷ (codes ">>", bin.Shr) ∷ (codes "+", bin.Add) ∷ (codes "-", bin.Sub) ∷ (codes "*", bin.Mul) ∷ []

-- one of level k or a stronger one, its place and what stands behind it
abbrev pub of_level : ℕ → ℕ → List Symbol → Option Bin → Option (Bin × ℕ × List Symbol)
of_level k at rest None = None
of_level k at rest (Some op) = if nat_le k (binary_level op) then Some (op, at, rest) else None

-- the one in front, if its level is k or a stronger one
abbrev pub operator : ℕ → List Symbol → Option (Bin × ℕ × List Symbol)
operator k [] = None
operator k (Symbol.Fixed at text ∷ ss) = of_level k at ss (looked_up operators text)
operator k (Symbol.Named at text ∷ ss) = None
operator k (Symbol.Number at value ∷ ss) = None
operator k (Symbol.Quoted at text ∷ ss) = None

-- ---- what an operand begins with

-- an opening parenthesis, an operator of one operand
pub data Beginning : Type 0 where
  Opening : Beginning
  Operation : Prefix → Beginning

-- each with its mark
abbrev pub beginnings : List (List ℕ × Beginning)
beginnings = (codes "(", Opening) ∷ (codes "-", Operation Prefix.Neg) ∷ (codes "~", Operation Prefix.Inv) ∷ (codes "!", Operation Prefix.Not) ∷ []

-- ---- expressions

-- a reading of expressions whose outermost level is the first number or a stronger one and whose depth is at most the second
abbrev pub Reader : Type 0
Reader = ℕ → ℕ → List Symbol → Read Formula

-- a reading of further arguments, each behind its comma, none of which is deeper than the number
abbrev pub Others : Type 0
Others = ℕ → List Symbol → Read Further

-- the further argument behind a comma, and those behind it; none where no comma is next
abbrev pub others_from : Reader → Others → ℕ → List Symbol → Option (ℕ × List Symbol) → Read Further
others_from inner others room here None = Found NoMore here
others_from inner others room here (Some (comma, rest)) = read_on (inner 0 room rest) (λ x s. read_on (others room s) (λ xs t. Found (More comma x xs) t))

-- the arguments of a call, of which there is one or more, and `)`
abbrev pub arguments : Reader → Others → ℕ → Name → ℕ → List Symbol → Read Formula
arguments inner others room n p ss =
    read_on (inner 0 (room - 1) ss) (λ x r. read_on (others (room - 1) r) (λ xs t. read_on (mark (codes ")") t) (λ q u. Found (CalledWith n p x xs q) u)))

-- what stands behind `NAME (`: the last is what stands behind `)`, if that is next. An argument is a further node.
abbrev pub call_from : Reader → Others → ℕ → Name → ℕ → List Symbol → Option (ℕ × List Symbol) → Read Formula
call_from inner others room n p ss None = with_room room ss (arguments inner others room n p ss)
call_from inner others room n p ss (Some (q, rest)) = Found (Called n p q) rest

-- a name, and the arguments of a call behind it: the last is what stands behind `(`, if that is next
abbrev pub call : Reader → Others → ℕ → Name → List Symbol → Option (ℕ × List Symbol) → Read Formula
call inner others room n ss None = Found (Named n) ss
call inner others room n ss (Some (p, rest)) = call_from inner others room n p rest (behind (codes ")") rest)

-- the expression in brackets behind a name, or else a call: the last is what stands behind `[`, if that is next
abbrev pub named : Reader → Others → ℕ → Name → List Symbol → Option (ℕ × List Symbol) → Read Formula
named inner others room n ss None = call inner others room n ss (behind (codes "(") ss)
named inner others room n ss (Some (p, rest)) =
    with_room room ss (read_on (inner 0 (room - 1) rest) (λ i r. read_on (mark (codes "]") r) (λ q s. Found (Indexed n p i q) s)))

-- `( e )`, behind its first symbol
abbrev pub paren : Reader → ℕ → ℕ → List Symbol → Read Formula
paren inner room at ss = read_on (inner 0 (room - 1) ss) (λ x r. read_on (mark (codes ")") r) (λ q s. Found (Paren at x q) s))

-- an operator's one operand, which has no operator of two outermost
abbrev pub operation : Reader → ℕ → Prefix → ℕ → List Symbol → Read Formula
operation inner room op at ss = read_on (inner unary_level (room - 1) ss) (λ x s. Found (Unary op at x) s)

-- what begins with a mark; `here` are the symbols from that one on
abbrev pub begun : Reader → ℕ → List Symbol → ℕ → List Symbol → Option Beginning → Read Formula
begun inner room here at ss None = Stuck here
begun inner room here at ss (Some Opening) = with_room room here (paren inner room at ss)
begun inner room here at ss (Some (Operation op)) = with_room room here (operation inner room op at ss)

-- an expression without an operator of two operands outermost
abbrev pub operand : Reader → Others → ℕ → List Symbol → Read Formula
operand inner others room [] = Stuck []
operand inner others room (Symbol.Fixed at text ∷ ss) = begun inner room (Symbol.Fixed at text ∷ ss) at ss (looked_up beginnings text)
operand inner others room (Symbol.Named at text ∷ ss) = named inner others room (record { at = at; text = text }) ss (behind (codes "[") ss)
operand inner others room (Symbol.Number at value ∷ ss) = Found (Numeral (record { at = at; value = value })) ss
operand inner others room (Symbol.Quoted at text ∷ ss) = Stuck (Symbol.Quoted at text ∷ ss)

-- The expression left, and the operator behind it if there is one. The operator is where the reading is stuck, if left with one
-- node above it is too deep. Its right part has a stronger level, and the two go on together.
abbrev pub turn : Reader → (Formula → List Symbol → Read Formula) → ℕ → Formula → List Symbol → Option (Bin × ℕ × List Symbol) → Read Formula
turn inner next room left here None = Found left here
turn inner next room left here (Some (op, at, rest)) =
    if nat_le room (depth left) then Stuck here else read_on (inner (suc (binary_level op)) (room - 1) rest) (λ right s. next (Binary op left at right) s)

abbrev mutual
  -- an expression whose outermost level is k or a stronger one and whose depth is at most room, as long as it goes, by at most
  -- n calls below one another
  pub climb : ℕ → Reader
  climb zero k room ss = Unread
  climb (suc n) k room ss = read_on (operand (climb n) (further n) room ss) (λ x rest. more n k room x rest)

  -- the operators of level k or a stronger one behind the expression left, with their right parts
  pub more : ℕ → ℕ → ℕ → Formula → List Symbol → Read Formula
  more zero k room left ss = Unread
  more (suc n) k room left ss = turn (climb n) (λ x rest. more n k room x rest) room left ss (operator k ss)

  -- further arguments, as long as a comma is next
  pub further : ℕ → Others
  further zero room ss = Unread
  further (suc n) room ss = others_from (climb n) (further n) room ss (behind (codes ",") ss)

-- what the list is read as: so many calls are always enough
abbrev pub reading : Reader
reading k room ss = climb (suc (length ss)) k room ss

-- ---- where an expression ends

-- a name alone stands at the end of the expression
abbrev pub ends_in_name : Formula → Bool
ends_in_name (Named n) = true
ends_in_name (Unary op at x) = ends_in_name x
ends_in_name (Binary op x at y) = ends_in_name y
ends_in_name _ = false

-- no operator of level k or a stronger one is in front
abbrev pub HasNoOperator : ℕ → List Symbol → Type 0
HasNoOperator k ss = operator k ss ≡ None

-- neither an index nor the arguments of a call are in front
pub record HasNoSuffix (ss : List Symbol) : Type 0 where
  pub bracket : behind (codes "[") ss ≡ None
  pub parenthesis : behind (codes "(") ss ≡ None

-- nor where the expression ends in a name alone
abbrev pub HasNoIndex : Formula → List Symbol → Type 0
HasNoIndex x ss = IsTrue (ends_in_name x) → HasNoSuffix ss

-- neither makes the expression longer
pub record IsEnd (k : ℕ) (x : Formula) (rest : List Symbol) : Type 0 where
  pub stops : HasNoOperator k rest
  pub no_index : HasNoIndex x rest

-- the expression is one that may be read where the outermost level is k or a stronger one and so many nodes have room
pub record IsGood (k room : ℕ) (x : Formula) : Type 0 where
  pub leveled : IsLeveled x
  pub at_least : k ≤ level x
  pub shallow : depth x ≤ room
