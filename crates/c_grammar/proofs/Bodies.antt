-- The parts of a block up to its second brace are read lawfully, if each part is.
use Rattle.std.proofs.Common.{◌≡◌, ℕ, ◌<◌, List, [], ◌∷◌, ◌++◌, length, None, refl, ap, ◌∙◌, arith}
use Rattle.std.specs.Prelude.{codes, flat_map}
use Rattle.c_tree.specs.declared.names.TypeWord.{TypeWord}
use Rattle.c_tree.specs.declared.names.TypeWord.TheVariants as type_word
use Rattle.readings.specs.Symbol.{Symbol, fixed}
use Rattle.readings.specs.Reading.{behind}
use Rattle.readings.specs.Readings.{Reading}
use Rattle.readings.specs.Lawful.{IsReading, IsMade, Anywhere}
use Rattle.readings.specs.Whole.{Goods}
use Rattle.readings.proofs.Combining.{made_all}
use Rattle.c_tree.specs.Formula.{Formula, Numeral, Named, Indexed, Called, CalledWith, Paren, Unary, Binary}
use Rattle.c_tree.specs.Statement.{Declaration, Act, Assign, Step, Invoke, Statement, Braces, Empty, Simply, Break, Continue, Return, If, IfElse, While, Do, For, Body, Nothing, Declare, Then}
use Rattle.c_tree.specs.Spell.{formula_spelling, act_spelling, statement_spelling, body_spelling, type_spelling, variable_spelling, further_variables_spelling}
use Rattle.c_grammar.specs.Until.{until, until_spelling, until_good}
use Rattle.c_grammar.specs.Statements.{IsCall, IsWritten, IsWrittenStatement, BodyPart, Declaring, Stating, body_of, part_spelling, IsGoodPart, IsPartEnd, IsGoodBody, closed_spelling, closed_body}
use Rattle.c_grammar.proofs.Until.{until_law}

-- ---- what a part begins with

-- this symbol is in front
record Front (s : Symbol) (ss : List Symbol) : Type 0 where
  others : List Symbol
  is : ss ≡ s ∷ others

-- what stands behind the front doesn't matter
front_more : (s : Symbol) (a b : List Symbol) → Front s a → Front s (a ++ b)
front_more s a b f = record { others = f.others ++ b; is = ap (λ u. u ++ b) f.is }

-- a symbol that begins a declaration or a statement is neither a brace that closes nor `else`
abbrev IsFirst : Symbol → Type 0
IsFirst s = (t : List Symbol) → (behind (codes "}") (s ∷ t) ≡ None) × (behind (codes "else") (s ∷ t) ≡ None)

record Begun (ss : List Symbol) : Type 0 where
  first : Symbol
  fits : IsFirst first
  front : Front first ss

begun_more : (a b : List Symbol) → Begun a → Begun (a ++ b)
begun_more a b h = record { first = h.first; fits = h.fits; front = front_more h.first a b h.front }

call_begun : (x : Formula) → IsCall x → Begun (formula_spelling x)
call_begun (Called n p q) h = record { first = Symbol.Named n.at n.text; fits = λ t. (refl, refl); front = record { others = Symbol.Fixed p (codes "(") ∷ Symbol.Fixed q (codes ")") ∷ []; is = refl } }
call_begun (CalledWith n p x xs q) h = record { first = Symbol.Named n.at n.text; fits = λ t. (refl, refl); front = record { others = _; is = refl } }
call_begun (Numeral n) h = absurd h
call_begun (Named n) h = absurd h
call_begun (Indexed n p i q) h = absurd h
call_begun (Paren p x q) h = absurd h
call_begun (Unary op at x) h = absurd h
call_begun (Binary op x at y) h = absurd h

act_begun : (a : Act) → IsWritten a → Begun (act_spelling a)
act_begun (Assign n i s e) h = record { first = Symbol.Named n.at n.text; fits = λ t. (refl, refl); front = record { others = _; is = refl } }
act_begun (Step n i c) h = record { first = Symbol.Named n.at n.text; fits = λ t. (refl, refl); front = record { others = _; is = refl } }
act_begun (Invoke x) h = call_begun x h

statement_begun : (s : Statement) → IsWrittenStatement s → Begun (statement_spelling s)
statement_begun (Braces p b q) h = record { first = Symbol.Fixed p (codes "{"); fits = λ t. (refl, refl); front = record { others = _; is = refl } }
statement_begun (Empty at) h = record { first = Symbol.Fixed at (codes ";"); fits = λ t. (refl, refl); front = record { others = _; is = refl } }
statement_begun (Simply a at) h = begun_more (act_spelling a) (fixed at (codes ";")) (act_begun a h)
statement_begun (Break at q) h = record { first = Symbol.Fixed at (codes "break"); fits = λ t. (refl, refl); front = record { others = _; is = refl } }
statement_begun (Continue at q) h = record { first = Symbol.Fixed at (codes "continue"); fits = λ t. (refl, refl); front = record { others = _; is = refl } }
statement_begun (Return at e q) h = record { first = Symbol.Fixed at (codes "return"); fits = λ t. (refl, refl); front = record { others = _; is = refl } }
statement_begun (If at p c q x) h = record { first = Symbol.Fixed at (codes "if"); fits = λ t. (refl, refl); front = record { others = _; is = refl } }
statement_begun (IfElse at p c q x f y) h = record { first = Symbol.Fixed at (codes "if"); fits = λ t. (refl, refl); front = record { others = _; is = refl } }
statement_begun (While at p c q x) h = record { first = Symbol.Fixed at (codes "while"); fits = λ t. (refl, refl); front = record { others = _; is = refl } }
statement_begun (Do at x w p c q z) h = record { first = Symbol.Fixed at (codes "do"); fits = λ t. (refl, refl); front = record { others = _; is = refl } }
statement_begun (For at p f a c b z q x) h = record { first = Symbol.Fixed at (codes "for"); fits = λ t. (refl, refl); front = record { others = _; is = refl } }

declaration_begun : (d : Declaration) → Begun (part_spelling (Declaring d))
declaration_begun d = by d.word
  where
    by : (w : TypeWord) → Begun (type_spelling w ++ variable_spelling d.first ++ further_variables_spelling d.rest ++ fixed d.semicolon (codes ";"))
    by (type_word.Int at) = record { first = Symbol.Fixed at (codes "int"); fits = λ t. (refl, refl); front = record { others = _; is = refl } }

part_begun : (room : ℕ) (p : BodyPart) → IsGoodPart room p → Begun (part_spelling p)
part_begun room (Declaring d) h = declaration_begun d
part_begun room (Stating s) h = statement_begun s h.written

-- so a part isn't taken for the brace, and takes a symbol
part_unmarked : (room : ℕ) (p : BodyPart) (r : List Symbol) → IsGoodPart room p → behind (codes "}") (part_spelling p ++ r) ≡ None
part_unmarked room p r g = let b = part_begun room p g in let f = front_more b.first (part_spelling p) r b.front in ap (behind (codes "}")) f.is ∙ (b.fits f.others).0

part_else : (room : ℕ) (p : BodyPart) (r : List Symbol) → IsGoodPart room p → behind (codes "else") (part_spelling p ++ r) ≡ None
part_else room p r g = let b = part_begun room p g in let f = front_more b.first (part_spelling p) r b.front in ap (behind (codes "else")) f.is ∙ (b.fits f.others).1

part_some : (room : ℕ) (p : BodyPart) → IsGoodPart room p → 0 < length (part_spelling p)
part_some room p g = let b = part_begun room p g in rw b.front.is (omega arith)

part_before : (room : ℕ) (x y : BodyPart) (r : List Symbol) → IsGoodPart room x → IsGoodPart room y → IsPartEnd x (part_spelling y ++ r)
part_before room (Declaring d) y r g h = tt
part_before room (Stating s) y r g h = λ _. part_else room y r h

part_closed : (x : BodyPart) (at : ℕ) (r : List Symbol) → IsPartEnd x (Symbol.Fixed at (codes "}") ∷ r)
part_closed (Declaring d) at r = tt
part_closed (Stating s) at r = λ _. refl

-- ---- parts and the body that they make

body_spelled : (ps : List BodyPart) → body_spelling (body_of ps) ≡ flat_map part_spelling ps
body_spelled [] = refl
body_spelled (Declaring d ∷ ps) = ap (λ u. part_spelling (Declaring d) ++ u) (body_spelled ps)
body_spelled (Stating s ∷ ps) = ap (λ u. statement_spelling s ++ u) (body_spelled ps)

body_good : (room : ℕ) (ps : List BodyPart) (q : ℕ) → Goods (IsGoodPart room) ps → IsGoodBody room (body_of ps, q)
body_good room [] q h = record { written = tt; leveled = tt; shallow = omega arith }
body_good room (Declaring d ∷ ps) q h =
    let b = body_good room ps q h.1 in
    record { written = b.written; leveled = (h.0.first, h.0.rest, b.leveled); shallow = omega (arith, h.0.shallow, b.shallow) }
body_good room (Stating s ∷ ps) q h =
    let b = body_good room ps q h.1 in
    record { written = (h.0.written, b.written); leveled = (h.0.leveled, b.leveled); shallow = omega (arith, h.0.shallow, b.shallow) }

-- each body is made of its parts
abbrev parts_of : Body → List BodyPart
parts_of Nothing = []
parts_of (Declare d rest) = Declaring d ∷ parts_of rest
parts_of (Then s rest) = Stating s ∷ parts_of rest

parts_made : (b : Body) → body_of (parts_of b) ≡ b
parts_made Nothing = refl
parts_made (Declare d rest) = ap (λ u. Declare d u) (parts_made rest)
parts_made (Then s rest) = ap (λ u. Then s u) (parts_made rest)

parts_good : (room : ℕ) (b : Body) (q : ℕ) → IsGoodBody room (b, q) → Goods (IsGoodPart room) (parts_of b)
parts_good room Nothing q h = tt
parts_good room (Declare d rest) q h =
    (record { first = h.leveled.0; rest = h.leveled.1; shallow = omega (arith, h.shallow) }, parts_good room rest q (record { written = h.written; leveled = h.leveled.2; shallow = omega (arith, h.shallow) }))
parts_good room (Then s rest) q h = (
  record { written = h.written.0; leveled = h.leveled.0; shallow = omega (arith, h.shallow) },
  parts_good room rest q (record { written = h.written.1; leveled = h.leveled.1; shallow = omega (arith, h.shallow) }),
)

abbrev make : List BodyPart × ℕ → Body × ℕ
make (ps, q) = (body_of ps, q)

from_parts : (room : ℕ) (y : Body × ℕ) → IsGoodBody room y → IsMade (until_good (IsGoodPart room)) make y
from_parts room (b, q) h = ((parts_of b, q), parts_good room b q h, ap (λ u. (u, q)) (parts_made b))

-- so a body is read lawfully
pub closed_body_law : (room : ℕ) (reads : Reading BodyPart) → IsReading part_spelling (IsGoodPart room) IsPartEnd reads → IsReading closed_spelling (IsGoodBody room) Anywhere (closed_body reads)
closed_body_law room reads l =
    made_all make (until_spelling (codes "}") part_spelling) (until_good (IsGoodPart room)) (until (codes "}") reads) closed_spelling (IsGoodBody room) Anywhere
    (λ x. ap (λ u. u ++ fixed x.1 (codes "}")) (body_spelled x.0)) (λ x h. body_good room x.0 x.1 h) (from_parts room)
    (until_law (codes "}") part_spelling (IsGoodPart room) IsPartEnd reads l.law (part_unmarked room) (part_some room) (part_before room) (λ x at r g. part_closed x at r))
