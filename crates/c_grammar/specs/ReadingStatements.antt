-- Reading statements and what stands in a block from the front of a list of symbols.
use Rattle.std.specs.Prelude.{ℕ, zero, suc, ◌-◌, List, [], ◌∷◌, Option, Some, None, codes}
use Rattle.c_tree.specs.declared.names.Name.{Name}
use Rattle.c_tree.specs.declared.names.TypeWord.TheVariants as type_word
use Rattle.readings.specs.Symbol.{Symbol}
use Rattle.readings.specs.Reading.{Read, Stuck, behind}
use Rattle.readings.specs.Readings.{Reading, ◌>>>◌, made, given, sign, optional, worded}
use Rattle.c_tree.specs.Formula.{Formula}
use Rattle.c_tree.specs.Statement.{Act, Opening, Acts, Declares, Statement, Braces, Empty, Simply, Break, Continue, Return, If, IfElse, While, Do, For, Body, Nothing}
use Rattle.c_grammar.specs.Until.{ended}
use Rattle.c_grammar.specs.Declarations.{expression, variable_within, declaration_read}
use Rattle.c_grammar.specs.Acts.{act_read, act_behind}
use Rattle.c_grammar.specs.Statements.{BodyPart, Declaring, Stating, closed_body}

-- ---- parts of statements

-- `(e)`
abbrev pub Condition : Type 0
Condition = ℕ × (Formula × ℕ)

abbrev pub condition : ℕ → Reading Condition
condition room = sign (codes "(") >>> (expression room >>> sign (codes ")"))

-- `;` or `e;`: where there is no room for an expression, what is no `;` fits nothing
abbrev pub ended_expression : ℕ → Reading (Option Formula × ℕ)
ended_expression zero = made (λ q. (None, q)) (sign (codes ";"))
ended_expression (suc room) = ended (codes ";") (expression (suc room))

-- the first part of a `for`, with at most so many nodes below a simple statement: the last is what stands behind `int`, if that is next
abbrev pub opening_from : ℕ → ℕ → List Symbol → Option (ℕ × List Symbol) → Read Opening
opening_from room n ss None = made (λ a. Acts a) (act_read room) n ss
opening_from room n ss (Some (at, rest)) = made (λ v. Declares (type_word.Int at) v) (variable_within room) n rest

abbrev pub opening_read : ℕ → Reading Opening
opening_read room n ss = opening_from room n ss (behind (codes "int") ss)

-- the three parts of a `for` between its parentheses, and the second one
abbrev pub Header : Type 0
Header = ℕ × ((Option Opening × ℕ) × ((Option Formula × ℕ) × (Option Act × ℕ)))

abbrev pub header : ℕ → Reading Header
header room =
    sign (codes "(") >>> (ended (codes ";") (opening_read (room - 1)) >>> (ended (codes ";") (expression room) >>> ended (codes ")") (act_read (room - 1))))

-- ---- what stands in a block

-- the last is what stands behind `int`, if that is next
abbrev pub part_from : ℕ → Reading Statement → ℕ → List Symbol → Option (ℕ × List Symbol) → Read BodyPart
part_from room statements n ss None = made (λ s. Stating s) statements n ss
part_from room statements n ss (Some (at, rest)) = made (λ d. Declaring d) (declaration_read room at) n rest

-- a declaration, two nodes above its initial values, or a statement
abbrev pub body_part : ℕ → Reading Statement → Reading BodyPart
body_part room statements n ss = part_from room statements n ss (behind (codes "int") ss)

-- What stands between the braces of a block, and the second one, by the reading of its statements. Each part is of at most this depth: with room
-- for one node there are statements alone, and with room for none there is nothing.
abbrev pub body_read : ℕ → Reading Statement → Reading (Body × ℕ)
body_read zero statements = made (λ q. (Nothing, q)) (sign (codes "}"))
body_read (suc zero) statements = closed_body (made (λ s. Stating s) statements)
body_read (suc (suc room)) statements = closed_body (body_part room statements)

-- ---- what a statement begins with

-- a mark or a keyword
pub data StatementStart : Type 0 where
  Ending : StatementStart
  Breaking : StatementStart
  Continuing : StatementStart
  Returning : StatementStart
  Bracing : StatementStart
  Branching : StatementStart
  Looping : StatementStart
  Repeating : StatementStart
  Counting : StatementStart

-- those of statements for which there is room with so many nodes below them
abbrev pub statement_starts : ℕ → List (List ℕ × StatementStart)
statement_starts zero = (codes ";", Ending) ∷ (codes "break", Breaking) ∷ (codes "continue", Continuing) ∷ (codes "return", Returning) ∷ []
statement_starts (suc room) =
    (codes ";", Ending) ∷ (codes "break", Breaking) ∷ (codes "continue", Continuing) ∷ (codes "return", Returning) ∷ (codes "{", Bracing)
    ∷ (codes "if", Branching) ∷ (codes "while", Looping) ∷ (codes "do", Repeating) ∷ (codes "for", Counting) ∷ []

-- the statement of an `if`
abbrev pub branch : ℕ → Condition × (Statement × Option (ℕ × Statement)) → Statement
branch at ((p, (c, q)), (x, None)) = If at p c q x
branch at ((p, (c, q)), (x, Some (f, y))) = IfElse at p c q x f y

-- What stands behind each: at most so many nodes are below the statement, the statements in it are read by the first reading, and what stands between
-- its braces by the second. An `else` belongs to the nearest `if`.
abbrev pub behind_statement : ℕ → Reading Statement → Reading (Body × ℕ) → StatementStart → ℕ → Reading Statement
behind_statement room inner braced Ending at = given (Empty at)
behind_statement room inner braced Breaking at = made (λ q. Break at q) (sign (codes ";"))
behind_statement room inner braced Continuing at = made (λ q. Continue at q) (sign (codes ";"))
behind_statement room inner braced Returning at = made (λ (e, q). Return at e q) (ended_expression room)
behind_statement room inner braced Bracing at = made (λ (b, q). Braces at b q) braced
behind_statement room inner braced Branching at = made (branch at) (condition room >>> (inner >>> optional (codes "else") inner))
behind_statement room inner braced Looping at = made (λ ((p, (c, q)), x). While at p c q x) (condition room >>> inner)
behind_statement room inner braced Repeating at =
    made (λ (x, (w, ((p, (c, q)), z))). Do at x w p c q z) (inner >>> (sign (codes "while") >>> (condition room >>> sign (codes ";"))))
behind_statement room inner braced Counting at =
    made (λ ((p, ((f, a), ((c, b), (l, q)))), x). For at p f a c b l q x) (header room >>> inner)

-- `simple;` behind its name, where there is room for a simple statement; `here` are the symbols from the name on
abbrev pub named_statement : ℕ → Name → ℕ → List Symbol → List Symbol → Read Statement
named_statement zero x n here ss = Stuck here
named_statement (suc room) x n here ss = made (λ (a, q). Simply a q) (act_behind room x >>> sign (codes ";")) n ss

-- ---- statements

-- a statement with at most so many nodes below it, by the readings of what stands in it
abbrev pub statement_over : ℕ → Reading Statement → Reading (Body × ℕ) → Reading Statement
statement_over room inner braced n [] = Stuck []
statement_over room inner braced n (Symbol.Fixed at text ∷ ss) = worded (statement_starts room) (behind_statement room inner braced) n (Symbol.Fixed at text ∷ ss)
statement_over room inner braced n (Symbol.Named at text ∷ ss) =
    named_statement room (record { at = at; text = text }) n (Symbol.Named at text ∷ ss) ss
statement_over room inner braced n (Symbol.Number at value ∷ ss) = Stuck (Symbol.Number at value ∷ ss)
statement_over room inner braced n (Symbol.Quoted at text ∷ ss) = Stuck (Symbol.Quoted at text ∷ ss)

unfoldable mutual
  -- a statement of at most this depth
  pub statement_read : ℕ → Reading Statement
  statement_read zero n ss = Stuck ss
  statement_read (suc room) n ss = statement_over room (statement_read room) (block_body room) n ss

  -- what stands between the braces of a block of at most this depth, and the second one
  pub block_body : ℕ → Reading (Body × ℕ)
  block_body zero n ss = Stuck ss
  block_body (suc room) n ss = body_read room (statement_read room) n ss
