-- What the reader keeps, as definitions see it, and readings by what the reader has. Private: contracts of the reader cite it.
use Rattle.std.specs.Prelude.{ℕ, zero, suc, List, [], ◌∷◌, Option, map, option_map, codes}
use Rattle.c_tree.specs.declared.statement.AssignMark.TheVariants as store
use Rattle.c_tree.specs.declared.statement.StepMark.TheVariants as change
use Rattle.c_tree.specs.declared.statement.LVar.{LVar}
use Rattle.c_tree.specs.declared.statement.Stmt.{Stmt}
use Rattle.readings.specs.Symbol.{Symbol}
use Rattle.readings.specs.Reading.{Stuck, read_on}
use Rattle.readings.specs.Readings.{Reading, ◌>>>◌, made, sign}
use Rattle.c_tree.specs.Formula.{Formula, formula}
use Rattle.c_tree.specs.Statement.{Act, Variable, Statement, Simply, For, Body, Declare, Then, act, variable, opening, statement}
use Rattle.c_grammar.specs.Words.{name}
use Rattle.c_grammar.specs.Acts.{Deed, DeedMark, Storing, Changing, ActMark, Calling, Indexing, Doing, Stores, Changes, act_behind}
use Rattle.c_grammar.specs.Statements.{BodyPart, Declaring, Stating}
use Rattle.c_grammar.specs.ReadingStatements.{Header, StatementStart, Ending, Breaking, Continuing, Returning, Bracing, Branching, Looping, Repeating, Counting, behind_statement, body_part, statement_read, block_body}
use Rattle.c_statement.specs.declared.act.ActMark as act_marks
use Rattle.c_statement.specs.declared.act.ActMark.TheVariants as act_mark
use Rattle.c_statement.specs.declared.act.DeedMark as deed_marks
use Rattle.c_statement.specs.declared.act.DeedMark.TheVariants as deed_mark
use Rattle.c_statement.specs.declared.act.Deed as deeds
use Rattle.c_statement.specs.declared.act.Deed.TheVariants as deed
use Rattle.c_statement.specs.declared.start.Leaf.{Leaf}
use Rattle.c_statement.specs.declared.start.Leaf.TheVariants as leaf
use Rattle.c_statement.specs.declared.start.Node.{Node}
use Rattle.c_statement.specs.declared.start.Node.TheVariants as node
use Rattle.c_statement.specs.declared.header.Header as headers
use Rattle.c_statement.specs.declared.header.Later as laters

-- ---- single symbols

-- neither a keyword nor a mark is in front
abbrev pub HasNoWord : List Symbol → Type 0
HasNoWord [] = Unit {0}
HasNoWord (Symbol.Fixed at text ∷ ss) = ⊥
HasNoWord (Symbol.Named at text ∷ ss) = Unit {0}
HasNoWord (Symbol.Number at value ∷ ss) = Unit {0}
HasNoWord (Symbol.Quoted at text ∷ ss) = Unit {0}

-- ---- simple statements

-- the mark of what is done
abbrev pub deed_mark_of : deed_marks.DeedMark → DeedMark
deed_mark_of deed_mark.Set = Storing store.Set
deed_mark_of deed_mark.Add = Storing store.Add
deed_mark_of deed_mark.Sub = Storing store.Sub
deed_mark_of deed_mark.Up = Changing change.Up
deed_mark_of deed_mark.Down = Changing change.Down

-- what is done
abbrev pub deed_of : deeds.Deed → Deed
deed_of (deed.Stores s e) = Stores s (formula e)
deed_of (deed.Changes c) = Changes c

-- the mark behind a name
abbrev pub act_mark_of : act_marks.ActMark → ActMark
act_mark_of act_mark.Calling = Calling
act_mark_of act_mark.Indexing = Indexing
act_mark_of (act_mark.Doing m) = Doing (deed_mark_of m)

-- how many nodes it wants room for
abbrev pub least_room : act_marks.ActMark → ℕ
least_room act_mark.Calling = 0
least_room act_mark.Indexing = 2
least_room (act_mark.Doing m) = 1

-- ---- declarations

-- further variables
abbrev pub variables : List (ℕ × LVar) → List (ℕ × Variable)
variables vs = map (λ (comma, v). (comma, variable v)) vs

-- ---- what a `for` has between its parentheses

-- the second and the third part
abbrev pub later_of : laters.Later → (Option Formula × ℕ) × (Option Act × ℕ)
later_of l = ((option_map formula l.condition, l.second), (option_map act l.last, l.closing))

-- all three
abbrev pub header_of : headers.Header → Header
header_of h = (h.opening, ((option_map opening h.first, h.semicolon), later_of h.later))

-- the statement that they make
abbrev pub counted_of : ℕ → Header → Statement → Statement
counted_of at (p, ((f, a), ((c, b), (l, q)))) x = For at p f a c b l q x

-- ---- statements

-- a statement without others within it, and one with some
abbrev pub leaf_of : Leaf → StatementStart
leaf_of leaf.Ending = Ending
leaf_of leaf.Breaking = Breaking
leaf_of leaf.Continuing = Continuing
leaf_of leaf.Returning = Returning

abbrev pub node_of : Node → StatementStart
node_of node.Bracing = Bracing
node_of node.Branching = Branching
node_of node.Looping = Looping
node_of node.Repeating = Repeating
node_of node.Counting = Counting

-- the words and marks of the latter
abbrev pub node_starts : List (List ℕ × StatementStart)
node_starts =
    (codes "{", Bracing) ∷ (codes "if", Branching) ∷ (codes "while", Looping) ∷ (codes "do", Repeating) ∷ (codes "for", Counting) ∷ []

-- what stands behind the first symbol, with so many nodes below the statement
abbrev pub statement_behind : ℕ → StatementStart → ℕ → Reading Statement
statement_behind room = behind_statement room (statement_read room) (block_body room)

-- nothing is read
abbrev pub nowhere : {A : Type 0} → Reading A
nowhere n ss = Stuck ss

-- a simple statement and its semicolon, with so many nodes below
abbrev pub named_within : ℕ → Reading Statement
named_within zero = nowhere
named_within (suc room) = λ n ss. read_on (name n ss) (λ x s. made (λ (a, q). Simply a q) (act_behind room x >>> sign (codes ";")) n s)

-- the place of `else`, and its statement
abbrev pub boxed_of : ℕ × Stmt → ℕ × Statement
boxed_of (at, x) = (at, statement x)

-- ---- what stands in a block

-- a part before what stands behind it
abbrev pub before : BodyPart → Body → Body
before (Declaring d) = Declare d
before (Stating s) = Then s

-- a part that is at most so deep
abbrev pub part_within : ℕ → Reading BodyPart
part_within zero = nowhere
part_within (suc zero) = made (λ s. Stating s) (statement_read 1)
part_within (suc (suc room)) = body_part room (statement_read (suc (suc room)))
