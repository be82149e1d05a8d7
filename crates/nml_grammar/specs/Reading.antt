-- Reading an expression from the front of a list of symbols.
use Rattle.std.specs.Prelude.{ℕ, zero, suc, ◌-◌, Bool, true, false, if◌then◌else◌, nat_le, ◌≡◌, List, [], ◌∷◌, length, Option, Some, None, IsTrue, codes}
use Rattle.nml_tree.specs.declared.names.Name.{Name}
use Rattle.nml_tree.specs.declared.tree.Size.{Size}
use Rattle.nml_tree.specs.declared.operator.Bin.{Bin}
use Rattle.readings.specs.Symbol.{Symbol}
use Rattle.nml_tree.specs.Formula.{Formula, Prefix, Fit, Numeral, Truth, Named, Indexed, Paren, Fitted, Bits, Choose, Unary, Binary}
use Rattle.nml_tree.specs.Level.{binary_level, unary_level}
use Rattle.nml_tree.specs.Depth.{depth}
use Rattle.readings.specs.Reading.{Read, Found, Stuck, Unread, read_on, looked_up, behind, mark, with_room}
use Rattle.nml_tree.specs.declared.tree.Size.TheVariants as size_case
use Rattle.nml_tree.specs.declared.operator.Bin.TheVariants as bin

-- a size: a number or a name
abbrev pub size : List Symbol → Read Size
size [] = Stuck []
size (Symbol.Fixed at text ∷ ss) = Stuck (Symbol.Fixed at text ∷ ss)
size (Symbol.Named at text ∷ ss) = Found (size_case.Name (record { at = at; text = text })) ss
size (Symbol.Number at value ∷ ss) = Found (size_case.Number (record { at = at; value = value })) ss
size (Symbol.Quoted at text ∷ ss) = Stuck (Symbol.Quoted at text ∷ ss)

-- ---- operators of two operands

-- each with its mark
abbrev pub operators : List (List ℕ × Bin)
operators =
    (codes "||", bin.OrElse) ∷ (codes "&&", bin.AndAlso) ∷ (codes "|", bin.Or) ∷ (codes "^", bin.Xor) ∷ (codes "&", bin.And)
    ∷ (codes "==", bin.Eq) ∷ (codes "!=", bin.Ne) ∷ (codes "<", bin.Lt) ∷ (codes "<=", bin.Le) ∷ (codes ">", bin.Gt) ∷ (codes ">=", bin.Ge)
    ∷ (codes "<<", bin.Shl) ∷ (codes ">>", bin.Shr) ∷ (codes "+", bin.Add) ∷ (codes "-", bin.Sub) ∷ (codes "*", bin.Mul) ∷ []

-- one of level k or a stronger one, its place and what stands behind it
abbrev pub of_level : ℕ → ℕ → List Symbol → Option Bin → Option (Bin × ℕ × List Symbol)
of_level k at rest None = None
of_level k at rest (Some op) = if nat_le k (binary_level op) then Some (op, at, rest) else None

-- the one in front, if its level is k or a stronger one
abbrev pub operator : ℕ → List Symbol → Option (Bin × ℕ × List Symbol)
operator k [] = None
operator k (Symbol.Fixed at text ∷ ss) = of_level k at ss (looked_up operators text)
operator k (Symbol.Named at text ∷ ss) = None
operator k (Symbol.Number at value ∷ ss) = None
operator k (Symbol.Quoted at text ∷ ss) = None

-- ---- what an operand begins with

-- a truth value, an opening parenthesis, what fits a number into a type, `bits`, `if`, an operator of one operand
pub data Beginning : Type 0 where
  Value : Bool → Beginning
  Opening : Beginning
  Fitting : Fit → Beginning
  Slice : Beginning
  Choice : Beginning
  Operation : Prefix → Beginning

-- each with its keyword or mark
abbrev pub beginnings : List (List ℕ × Beginning)
beginnings =
    (codes "true", Value true) ∷ (codes "false", Value false) ∷ (codes "(", Opening) ∷ (codes "int", Fitting Fit.Int) ∷ (codes "card", Fitting Fit.Card)
    ∷ (codes "sat", Fitting Fit.Sat) ∷ (codes "bits", Slice) ∷ (codes "if", Choice) ∷ (codes "-", Operation Prefix.Neg)
    ∷ (codes "~", Operation Prefix.Inv) ∷ (codes "!", Operation Prefix.Not) ∷ []

-- ---- expressions

-- a reading of expressions whose outermost level is the first number or a stronger one and whose depth is at most the second
abbrev pub Reader : Type 0
Reader = ℕ → ℕ → List Symbol → Read Formula

-- the expression in brackets behind a name
abbrev pub index : Reader → ℕ → Name → List Symbol → Option (ℕ × List Symbol) → Read Formula
index inner room n ss None = Found (Named n) ss
index inner room n ss (Some (p, rest)) =
    with_room room ss (read_on (inner 0 (room - 1) rest) (λ i r. read_on (mark (codes "]") r) (λ q s. Found (Indexed n p i q) s)))

-- `( e )`, behind its first symbol
abbrev pub paren : Reader → ℕ → ℕ → List Symbol → Read Formula
paren inner room at ss = read_on (inner 0 (room - 1) ss) (λ x r. read_on (mark (codes ")") r) (λ q s. Found (Paren at x q) s))

-- `int ( size , e )` and the like, behind its first symbol
abbrev pub fitted : Reader → ℕ → Fit → ℕ → List Symbol → Read Formula
fitted inner room fit at ss =
    read_on (mark (codes "(") ss) (λ p s1. read_on (size s1) (λ n s2. read_on (mark (codes ",") s2)
    (λ c s3. read_on (inner 0 (room - 1) s3) (λ x s4. read_on (mark (codes ")") s4) (λ q s5. Found (Fitted fit at p n c x q) s5)))))

-- `bits ( e , size , size )`, behind its first symbol
abbrev pub slice : Reader → ℕ → ℕ → List Symbol → Read Formula
slice inner room at ss =
    read_on (mark (codes "(") ss) (λ p s1. read_on (inner 0 (room - 1) s1) (λ x s2. read_on (mark (codes ",") s2)
    (λ c s3. read_on (size s3) (λ high s4. read_on (mark (codes ",") s4) (λ d s5. read_on (size s5)
    (λ low s6. read_on (mark (codes ")") s6) (λ q s7. Found (Bits at p x c high d low q) s7)))))))

-- `if e then e else e endif`, behind its first symbol
abbrev pub choice : Reader → ℕ → ℕ → List Symbol → Read Formula
choice inner room at ss =
    read_on (inner 0 (room - 1) ss) (λ c s1. read_on (mark (codes "then") s1) (λ t s2. read_on (inner 0 (room - 1) s2)
    (λ x s3. read_on (mark (codes "else") s3) (λ f s4. read_on (inner 0 (room - 1) s4)
    (λ y s5. read_on (mark (codes "endif") s5) (λ end s6. Found (Choose at c t x f y end) s6))))))

-- an operator's one operand, which has no operator of two outermost
abbrev pub operation : Reader → ℕ → Prefix → ℕ → List Symbol → Read Formula
operation inner room op at ss = read_on (inner unary_level (room - 1) ss) (λ x s. Found (Unary op at x) s)

-- what begins with a keyword or a mark; `here` are the symbols from that one on
abbrev pub begun : Reader → ℕ → List Symbol → ℕ → List Symbol → Option Beginning → Read Formula
begun inner room here at ss None = Stuck here
begun inner room here at ss (Some (Value b)) = Found (Truth at b) ss
begun inner room here at ss (Some Opening) = with_room room here (paren inner room at ss)
begun inner room here at ss (Some (Fitting fit)) = with_room room here (fitted inner room fit at ss)
begun inner room here at ss (Some Slice) = with_room room here (slice inner room at ss)
begun inner room here at ss (Some Choice) = with_room room here (choice inner room at ss)
begun inner room here at ss (Some (Operation op)) = with_room room here (operation inner room op at ss)

-- an expression without an operator of two operands outermost
abbrev pub operand : Reader → ℕ → List Symbol → Read Formula
operand inner room [] = Stuck []
operand inner room (Symbol.Fixed at text ∷ ss) = begun inner room (Symbol.Fixed at text ∷ ss) at ss (looked_up beginnings text)
operand inner room (Symbol.Named at text ∷ ss) = index inner room (record { at = at; text = text }) ss (behind (codes "[") ss)
operand inner room (Symbol.Number at value ∷ ss) = Found (Numeral (record { at = at; value = value })) ss
operand inner room (Symbol.Quoted at text ∷ ss) = Stuck (Symbol.Quoted at text ∷ ss)

-- The expression left, and the operator behind it if there is one. The operator is where the reading is stuck, if left with one
-- node above it is too deep. Its right part has a stronger level, and the two go on together.
abbrev pub turn : Reader → (Formula → List Symbol → Read Formula) → ℕ → Formula → List Symbol → Option (Bin × ℕ × List Symbol) → Read Formula
turn inner next room left here None = Found left here
turn inner next room left here (Some (op, at, rest)) =
    if nat_le room (depth left) then Stuck here else read_on (inner (suc (binary_level op)) (room - 1) rest) (λ right s. next (Binary op left at right) s)

abbrev mutual
  -- an expression whose outermost level is k or a stronger one and whose depth is at most room, as long as it goes, by at most
  -- n calls below one another
  pub climb : ℕ → Reader
  climb zero k room ss = Unread
  climb (suc n) k room ss = read_on (operand (climb n) room ss) (λ x rest. more n k room x rest)

  -- the operators of level k or a stronger one behind the expression left, with their right parts
  pub more : ℕ → ℕ → ℕ → Formula → List Symbol → Read Formula
  more zero k room left ss = Unread
  more (suc n) k room left ss = turn (climb n) (λ x rest. more n k room x rest) room left ss (operator k ss)

-- what the list is read as: so many calls are always enough
abbrev pub reading : Reader
reading k room ss = climb (suc (length ss)) k room ss

-- ---- where an expression ends

-- a name alone stands at the end of the expression
abbrev pub ends_in_name : Formula → Bool
ends_in_name (Named n) = true
ends_in_name (Unary op at x) = ends_in_name x
ends_in_name (Binary op x at y) = ends_in_name y
ends_in_name _ = false

-- no operator of level k or a stronger one is in front
abbrev pub HasNoOperator : ℕ → List Symbol → Type 0
HasNoOperator k ss = operator k ss ≡ None

-- no index is in front, where the expression ends in a name alone
abbrev pub HasNoIndex : Formula → List Symbol → Type 0
HasNoIndex x ss = IsTrue (ends_in_name x) → behind (codes "[") ss ≡ None

-- neither makes the expression longer
pub record IsEnd (k : ℕ) (x : Formula) (rest : List Symbol) : Type 0 where
  pub stops : HasNoOperator k rest
  pub no_index : HasNoIndex x rest
