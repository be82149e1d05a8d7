-- Reading statements from the front of a list of symbols.
use Rattle.std.specs.Prelude.{ℕ, zero, suc, ◌-◌, ◌≡◌, List, [], ◌∷◌, Option, Some, None, codes}
use Rattle.nml_tree.specs.declared.names.Name.{Name}
use Rattle.readings.specs.Symbol.{Symbol}
use Rattle.nml_tree.specs.Formula.{Formula}
use Rattle.nml_tree.specs.Block.{Block, Index, Done, Assign, Part, Halt, If, IfElse}
use Rattle.readings.specs.Reading.{Read, Found, Unread, read_on, looked_up, behind, mark, with_room}
use Rattle.nml_grammar.specs.Reading.{Reader, climb}

-- ---- what a statement begins with

-- a name, `halt`, `if`
pub data Start : Type 0 where
  Naming : Name → Start
  Halting : (at : ℕ) → Start
  Branching : (at : ℕ) → Start

-- the keywords
abbrev pub starts : List (List ℕ × (ℕ → Start))
starts = (codes "halt", Halting) ∷ (codes "if", Branching) ∷ []

-- the one of this keyword, where there is one, its place and what stands behind it
abbrev pub start_of : ℕ → List Symbol → Option (ℕ → Start) → Option (Start × List Symbol)
start_of at ss None = None
start_of at ss (Some word) = Some (word at, ss)

-- the one in front, if a statement begins there, and what stands behind it
abbrev pub start : List Symbol → Option (Start × List Symbol)
start [] = None
start (Symbol.Fixed at text ∷ ss) = start_of at ss (looked_up starts text)
start (Symbol.Named at text ∷ ss) = Some (Naming (record { at = at; text = text }), ss)
start (Symbol.Number at value ∷ ss) = None
start (Symbol.Quoted at text ∷ ss) = None

-- no statement begins there
abbrev pub BeginsNone : List Symbol → Type 0
BeginsNone ss = start ss ≡ None

-- ---- a statement: what it puts before the block behind it

-- a reading of statements each of which may have this depth, which is 1 or more
abbrev pub Blocks : Type 0
Blocks = ℕ → List Symbol → Read Block

-- `NAME . action ;`, behind the dot
abbrev pub part : Name → ℕ → List Symbol → Read (Block → Block)
part n dot ss = read_on (mark (codes "action") ss) (λ at s1. read_on (mark (codes ";") s1) (λ semicolon s2. Found (Part n dot at semicolon) s2))

-- `= e ;`, behind a place
abbrev pub assignment : Reader → ℕ → Name → Index → List Symbol → Read (Block → Block)
assignment inner room n i ss =
    with_room room ss (read_on (mark (codes "=") ss) (λ at s1. read_on (inner 0 (room - 1) s1) (λ e s2. read_on (mark (codes ";") s2)
    (λ semicolon s3. Found (Assign n i at e semicolon) s3))))

-- what goes on from a name: an expression in brackets if there is one, the place being a node of its own, and the assignment
abbrev pub place : Reader → ℕ → Name → List Symbol → Option (ℕ × List Symbol) → Read (Block → Block)
place inner room n ss None = assignment inner room n None ss
place inner room n ss (Some (p, rest)) =
    with_room (room - 1) ss (read_on (inner 0 (room - 1 - 1) rest) (λ i s1. read_on (mark (codes "]") s1) (λ q s2. assignment inner room n (Some (p, i, q)) s2)))

-- what begins with a name: the last is what stands behind a dot, if that is next
abbrev pub naming : Reader → ℕ → Name → List Symbol → Option (ℕ × List Symbol) → Read (Block → Block)
naming inner room n ss None = place inner room n ss (behind (codes "[") ss)
naming inner room n ss (Some (dot, rest)) = part n dot rest

-- `halt ( e ) ;`, behind its first symbol
abbrev pub halting : Reader → ℕ → ℕ → List Symbol → Read (Block → Block)
halting inner room at ss =
    read_on (mark (codes "(") ss) (λ p s1. read_on (inner 0 (room - 1) s1) (λ e s2. read_on (mark (codes ")") s2)
    (λ q s3. read_on (mark (codes ";") s3) (λ semicolon s4. Found (Halt at p e q semicolon) s4))))

-- `endif ;`, or `else stmts endif ;`: the last is what stands behind `else`, if that is next
abbrev pub branch_end : Blocks → ℕ → ℕ → Formula → ℕ → Block → List Symbol → Option (ℕ × List Symbol) → Read (Block → Block)
branch_end blocks room at c t xs ss None =
    read_on (mark (codes "endif") ss) (λ end s1. read_on (mark (codes ";") s1) (λ semicolon s2. Found (If at c t xs end semicolon) s2))
branch_end blocks room at c t xs ss (Some (f, rest)) =
    read_on (blocks (room - 1) rest) (λ ys s1. read_on (mark (codes "endif") s1) (λ end s2. read_on (mark (codes ";") s2)
    (λ semicolon s3. Found (IfElse at c t xs f ys end semicolon) s3)))

-- `if e then stmts endif ;`, or with `else stmts` before `endif`, behind its first symbol
abbrev pub branching : Reader → Blocks → ℕ → ℕ → List Symbol → Read (Block → Block)
branching inner blocks room at ss =
    read_on (inner 0 (room - 1) ss) (λ c s1. read_on (mark (codes "then") s1) (λ t s2. read_on (blocks (room - 1) s2)
    (λ xs s3. branch_end blocks room at c t xs s3 (behind (codes "else") s3))))

-- what begins so; `here` are the symbols from the first on
abbrev pub statement : Reader → Blocks → ℕ → List Symbol → Start → List Symbol → Read (Block → Block)
statement inner blocks room here (Naming n) ss = naming inner room n ss (behind (codes ".") ss)
statement inner blocks room here (Halting at) ss = with_room room here (halting inner room at ss)
statement inner blocks room here (Branching at) ss = with_room room here (branching inner blocks room at ss)

-- ---- statements

-- the statement in front, and those behind it
abbrev pub block_from : Reader → Blocks → ℕ → List Symbol → Option (Start × List Symbol) → Read Block
block_from inner blocks room here None = Found Done here
block_from inner blocks room here (Some (x, ss)) =
    read_on (statement inner blocks room here x ss) (λ put s. read_on (blocks room s) (λ b rest. Found (put b) rest))

-- the statements one behind the other, each of a depth of at most room, as long as one begins, by at most n calls below one another
abbrev pub statements : ℕ → Blocks
statements zero room ss = Unread
statements (suc n) room ss = block_from (climb n) (statements n) room ss (start ss)
