-- The parts of statements, and what stands in a block, are read lawfully.
use Rattle.std.proofs.Common.{◌≡◌, ◌⊎◌, inl, inr, ℕ, zero, suc, ◌-◌, ◌≤◌, List, ◌∷◌, ◌++◌, Option, Some, None, refl, ap, sym, ◌∙◌, subst, arith}
use Rattle.std.specs.Prelude.{codes}
use Rattle.c_tree.specs.declared.names.TypeWord.{TypeWord}
use Rattle.c_tree.specs.declared.names.TypeWord.TheVariants as type_word
use Rattle.readings.specs.Symbol.{Symbol, fixed, beyond}
use Rattle.readings.specs.Reading.{behind}
use Rattle.readings.specs.Readings.{Reading, made, sign}
use Rattle.readings.specs.Lawful.{IsReading, IsMade, Any, Anywhere}
use Rattle.readings.proofs.Combining.{sign_law, made_law, made_all, then_law, then_free}
use Rattle.readings.proofs.CombiningWords.{made_front}
use Rattle.readings.proofs.CombiningMarks.{by_mark_law}
use Rattle.c_tree.specs.Formula.{Formula, Prefix, Numeral, Named, Indexed, Called, CalledWith, Paren, Unary, Binary}
use Rattle.c_tree.specs.Statement.{Variable, Scalar, Initial, Array, Act, Assign, Step, Invoke, Opening, Acts, Declares, Statement, Braces, Empty, Simply, Break, Continue, Return, If, IfElse, While, Do, For, Body, Nothing, Declare, Then}
use Rattle.c_tree.specs.Level.{IsLeveledOpening}
use Rattle.c_tree.specs.Depth.{variable_depth, opening_depth, statement_depth}
use Rattle.c_tree.specs.Spell.{binary_mark, formula_spelling, act_spelling, variable_spelling, opening_spelling, statement_spelling}
use Rattle.c_grammar.specs.Reading.{IsEnd, IsGood}
use Rattle.c_grammar.specs.Until.{ended, ended_spelling, ended_good}
use Rattle.c_grammar.specs.Declarations.{expression, variable_within, declaration_read, IsGoodVariable, IsVariableEnd, IsVariableEndWithin}
use Rattle.c_grammar.specs.Acts.{act_read, IsGoodAct, IsActEnd}
use Rattle.c_grammar.specs.Statements.{IsCall, IsWritten, IsWrittenOpening, IsWrittenStatement, IsGoodStatement, IsStatementEnd, BodyPart, Declaring, Stating, part_spelling, IsGoodDeclaration, IsDeclarationOf, inside_declaration, IsGoodPart, IsPartEnd, IsGoodBody, closed_spelling}
use Rattle.c_grammar.specs.ReadingStatements.{Condition, condition, ended_expression, opening_from, opening_read, Header, header, part_from, body_part, body_read}
use Rattle.c_grammar.proofs.Flat.{flat-Binary, one_node}
use Rattle.c_grammar.proofs.LawfulExpressions.{expression_law}
use Rattle.c_grammar.proofs.LawfulDeclarations.{variable_within_law, ends_within, declaration_law}
use Rattle.c_grammar.proofs.LawfulActs.{act_law}
use Rattle.c_grammar.proofs.Ended.{marked_law, ended_law}
use Rattle.c_grammar.proofs.Bodies.{closed_body_law}

-- ---- expressions before marks

-- before a parenthesis that closes and before a semicolon
before_closing : (e : Formula) (at : ℕ) (r : List Symbol) → IsEnd 0 e (Symbol.Fixed at (codes ")") ∷ r)
before_closing e at r = record { stops = refl; no_index = λ _. record { bracket = refl; parenthesis = refl } }

before_end : (e : Formula) (at : ℕ) (r : List Symbol) → IsEnd 0 e (Symbol.Fixed at (codes ";") ∷ r)
before_end e at r = record { stops = refl; no_index = λ _. record { bracket = refl; parenthesis = refl } }

-- `(e)`
abbrev pub condition_spelling : Condition → List Symbol
condition_spelling c = fixed c.0 (codes "(") ++ (formula_spelling c.1.0 ++ fixed c.1.1 (codes ")"))

abbrev pub condition_good : ℕ → Condition → Type 0
condition_good room c = IsGood 0 room c.1.0

pub condition_law : (room : ℕ) → 1 ≤ room → IsReading condition_spelling (condition_good room) Anywhere (condition room)
condition_law room some =
    then_free _ _ _ _ _ _ (sign_law (codes "("))
    (marked_law (codes ")") formula_spelling (IsGood 0 room) (IsEnd 0) (expression room) (expression_law 0 room (omega arith) some) (λ e at r g. before_closing e at r))

-- an expression doesn't begin with a semicolon
not_ending : (x : Formula) (s : List Symbol) → behind (codes ";") (formula_spelling x ++ s) ≡ None
not_ending (Numeral n) s = refl
not_ending (Named n) s = refl
not_ending (Indexed n p i q) s = refl
not_ending (Called n p q) s = refl
not_ending (CalledWith n p x xs q) s = refl
not_ending (Paren p x q) s = refl
not_ending (Unary Prefix.Neg at x) s = refl
not_ending (Unary Prefix.Inv at x) s = refl
not_ending (Unary Prefix.Not at x) s = refl
not_ending (Binary op x at y) s = ap (behind (codes ";")) (flat-Binary op x at y s) ∙ not_ending x (Symbol.Fixed at (binary_mark op) ∷ (formula_spelling y ++ s))

-- `e;` or `;`
abbrev pub value_spelling : Option Formula × ℕ → List Symbol
value_spelling = ended_spelling (codes ";") formula_spelling

some_value_law : (room : ℕ) → 1 ≤ room → IsReading value_spelling (ended_good (IsGood 0 room)) Anywhere (ended (codes ";") (expression room))
some_value_law room some =
    ended_law (codes ";") formula_spelling (IsGood 0 room) (IsEnd 0) (expression room) (expression_law 0 room (omega arith) some) (λ x r g. not_ending x r) (λ e at r g. before_end e at r)

pub value_law : (room : ℕ) → IsReading value_spelling (ended_good (IsGood 0 room)) Anywhere (ended_expression room)
value_law zero =
    made_all none_of (λ q. fixed q (codes ";")) Any (sign (codes ";")) value_spelling (ended_good (IsGood 0 0)) Anywhere (λ q. refl) (λ q h. tt) from (sign_law (codes ";"))
  where
    none_of : ℕ → Option Formula × ℕ
    none_of q = (None, q)

    from : (y : Option Formula × ℕ) → ended_good (IsGood 0 0) y → IsMade Any none_of y
    from (None, q) g = (q, tt, refl)
    from (Some x, q) g = absurd (omega (arith, g.shallow, one_node x))
value_law (suc room) = some_value_law (suc room) (omega arith)

-- ---- the header of a `for`

abbrev pub first_spelling : Opening → List Symbol
first_spelling o = opening_spelling (Some o)

-- the first part may be read
pub record IsGoodOpening (room : ℕ) (o : Opening) : Type 0 where
  pub written : IsWrittenOpening (Some o)
  pub leveled : IsLeveledOpening (Some o)
  pub shallow : opening_depth (Some o) ≤ suc room

module _ (room : ℕ) where
  abbrev IsOpeningEnd : Opening → List Symbol → Type 0
  IsOpeningEnd (Acts a) r = IsActEnd a r
  IsOpeningEnd (Declares w v) r = IsVariableEndWithin room v r

  abbrev declares : ℕ → Variable → Opening
  declares at v = Declares (type_word.Int at) v

  act_good : (a : Act) → IsGoodAct room a → IsGoodOpening room (Acts a)
  act_good a g = record { written = g.written; leveled = g.leveled; shallow = g.shallow }

  variable_good : (at : ℕ) (v : Variable) → IsGoodVariable room v → IsGoodOpening room (declares at v)
  variable_good at v g = record { written = tt; leveled = g.leveled; shallow = g.shallow }

  -- a simple statement doesn't begin with a type, a semicolon or a parenthesis that closes
  record Plain (ss : List Symbol) : Type 0 where
    untyped : behind (codes "int") ss ≡ None
    not_ended : behind (codes ";") ss ≡ None
    not_closed : behind (codes ")") ss ≡ None

  call_plain : (x : Formula) (r : List Symbol) → IsCall x → Plain (formula_spelling x ++ r)
  call_plain (Called n p q) r h = record { untyped = refl; not_ended = refl; not_closed = refl }
  call_plain (CalledWith n p x xs q) r h = record { untyped = refl; not_ended = refl; not_closed = refl }
  call_plain (Numeral n) r h = absurd h
  call_plain (Named n) r h = absurd h
  call_plain (Indexed n p i q) r h = absurd h
  call_plain (Paren p x q) r h = absurd h
  call_plain (Unary op at x) r h = absurd h
  call_plain (Binary op x at y) r h = absurd h

  act_plain : (a : Act) (r : List Symbol) → IsWritten a → Plain (act_spelling a ++ r)
  act_plain (Assign n i s e) r h = record { untyped = refl; not_ended = refl; not_closed = refl }
  act_plain (Step n i c) r h = record { untyped = refl; not_ended = refl; not_closed = refl }
  act_plain (Invoke x) r h = call_plain x r h

  opening_law : IsReading first_spelling (IsGoodOpening room) IsOpeningEnd (opening_read room)
  opening_law =
      by_mark_law (codes "int") (opening_read room) (made (λ a. Acts a) (act_read room)) (λ at. made (declares at) (variable_within room)) (λ n ss i. ap (opening_from room n ss) i)
      (λ n ss at rest i. ap (opening_from room n ss) i)
      first_spelling (IsGoodOpening room) IsOpeningEnd (IsMade (IsGoodAct room) (λ a. Acts a)) IsOpeningEnd (λ at o. IsMade (IsGoodVariable room) (declares at) o)
      (made_law (λ a. Acts a) act_spelling (IsGoodAct room) (act_read room) first_spelling IsOpeningEnd (λ a. refl) (act_law room))
      (λ at. record {
        reading = made_law (declares at) variable_spelling (IsGoodVariable room) (variable_within room) (λ o. beyond (first_spelling o)) IsOpeningEnd (λ v. refl) (variable_within_law room);
        front = made_front (IsGoodVariable room) (declares at) first_spelling (Symbol.Fixed at (codes "int")) (λ v. refl);
        to = λ o h. subst (IsGoodOpening room) h.2 (variable_good at h.0 h.1);
      })
      (λ o h. subst (IsGoodOpening room) h.2 (act_good h.0 h.1)) (λ o r h e i. e) sorted
    where
      typed : (w : TypeWord) (v : Variable) → IsGoodVariable room v → (at : ℕ) × IsMade (IsGoodVariable room) (declares at) (Declares w v)
      typed (type_word.Int at) v g = (at, (v, g, refl))

      sorted : (o : Opening) → IsGoodOpening room o
          → (IsMade (IsGoodAct room) (λ a. Acts a) o × ((r : List Symbol) → IsOpeningEnd o r → IsOpeningEnd o r × (behind (codes "int") (first_spelling o ++ r) ≡ None)))
          ⊎ ((at : ℕ) × IsMade (IsGoodVariable room) (declares at) o)
      sorted (Acts a) g = inl ((a, record { written = g.written; leveled = g.leveled; shallow = g.shallow }, refl), λ r e. (e, (act_plain a r g.written).untyped))
      sorted (Declares w v) g = inr (typed w v (record { leveled = g.leveled; shallow = g.shallow }))

  -- both may stand before their marks
  act_closed : (a : Act) (at : ℕ) (r : List Symbol) → IsActEnd a (Symbol.Fixed at (codes ")") ∷ r) × IsActEnd a (Symbol.Fixed at (codes ";") ∷ r)
  act_closed (Assign n i s e) at r = (before_closing e at r, before_end e at r)
  act_closed (Step n i c) at r = (tt, tt)
  act_closed (Invoke x) at r = (tt, tt)

  variable_closed : (v : Variable) (at : ℕ) (r : List Symbol) → IsVariableEnd v (Symbol.Fixed at (codes ";") ∷ r)
  variable_closed (Scalar n) at r = (refl, refl)
  variable_closed (Initial n p e) at r = before_end e at r
  variable_closed (Array n p z q) at r = tt

  opening_closed : (o : Opening) (at : ℕ) (r : List Symbol) → IsOpeningEnd o (Symbol.Fixed at (codes ";") ∷ r)
  opening_closed (Acts a) at r = (act_closed a at r).1
  opening_closed (Declares w v) at r = ends_within room v _ (variable_closed v at r)

  opening_unmarked : (o : Opening) (r : List Symbol) → IsGoodOpening room o → behind (codes ";") (first_spelling o ++ r) ≡ None
  opening_unmarked (Acts a) r g = (act_plain a r g.written).not_ended
  opening_unmarked (Declares (type_word.Int at) v) r g = refl

  -- `first;` or `;`, and `simple)` or `)`
  first_law : IsReading (ended_spelling (codes ";") first_spelling) (ended_good (IsGoodOpening room)) Anywhere (ended (codes ";") (opening_read room))
  first_law =
      ended_law (codes ";") first_spelling (IsGoodOpening room) IsOpeningEnd (opening_read room) opening_law opening_unmarked (λ o at r g. opening_closed o at r)

  last_law : IsReading (ended_spelling (codes ")") act_spelling) (ended_good (IsGoodAct room)) Anywhere (ended (codes ")") (act_read room))
  last_law =
      ended_law (codes ")") act_spelling (IsGoodAct room) IsActEnd (act_read room) (act_law room) (λ a r g. (act_plain a r g.written).not_closed) (λ a at r g. (act_closed a at r).0)

abbrev pub header_spelling : Header → List Symbol
header_spelling h =
    fixed h.0 (codes "(") ++ (ended_spelling (codes ";") first_spelling h.1.0 ++ (value_spelling h.1.1.0 ++ ended_spelling (codes ")") act_spelling h.1.1.1))

abbrev pub header_good : ℕ → Header → Type 0
header_good room h = ended_good (IsGoodOpening (room - 1)) h.1.0 × (ended_good (IsGood 0 room) h.1.1.0 × ended_good (IsGoodAct (room - 1)) h.1.1.1)

pub header_law : (room : ℕ) → 1 ≤ room → IsReading header_spelling (header_good room) Anywhere (header room)
header_law room some =
    then_free _ _ _ _ _ _ (sign_law (codes "("))
    (then_law _ _ _ _ _ _ _ _ (first_law (room - 1)) (then_law _ _ _ _ _ _ _ _ (some_value_law room some) (last_law (room - 1)) (λ x y r g h e. tt)) (λ x y r g h e. tt))

-- ---- what stands in a block

-- every statement has a node
pub one_statement : (s : Statement) → 1 ≤ statement_depth s
one_statement (Braces p b q) = omega arith
one_statement (Empty q) = omega arith
one_statement (Simply a q) = omega arith
one_statement (Break at q) = omega arith
one_statement (Continue at q) = omega arith
one_statement (Return at e q) = omega arith
one_statement (If at p c q x) = omega arith
one_statement (IfElse at p c q x f y) = omega arith
one_statement (While at p c q x) = omega arith
one_statement (Do at x w p c q z) = omega arith
one_statement (For at p f a c b l q x) = omega arith

-- none begins with a type
statement_untyped : (s : Statement) (r : List Symbol) → IsWrittenStatement s → behind (codes "int") (statement_spelling s ++ r) ≡ None
statement_untyped (Braces p b q) r h = refl
statement_untyped (Empty q) r h = refl
statement_untyped (Simply (Assign n i s e) q) r h = refl
statement_untyped (Simply (Step n i c) q) r h = refl
statement_untyped (Simply (Invoke (Called n o p)) q) r h = refl
statement_untyped (Simply (Invoke (CalledWith n o x xs p)) q) r h = refl
statement_untyped (Simply (Invoke (Numeral n)) q) r h = absurd h
statement_untyped (Simply (Invoke (Named n)) q) r h = absurd h
statement_untyped (Simply (Invoke (Indexed n o i p)) q) r h = absurd h
statement_untyped (Simply (Invoke (Paren o x p)) q) r h = absurd h
statement_untyped (Simply (Invoke (Unary op at x)) q) r h = absurd h
statement_untyped (Simply (Invoke (Binary op x at y)) q) r h = absurd h
statement_untyped (Break at q) r h = refl
statement_untyped (Continue at q) r h = refl
statement_untyped (Return at e q) r h = refl
statement_untyped (If at p c q x) r h = refl
statement_untyped (IfElse at p c q x f y) r h = refl
statement_untyped (While at p c q x) r h = refl
statement_untyped (Do at x w p c q z) r h = refl
statement_untyped (For at p f a c b l q x) r h = refl

module _ (statements : Reading Statement) where
  -- where one node has room, a part is a statement
  stated_law : (room : ℕ) → IsReading statement_spelling (IsGoodStatement room) IsStatementEnd statements
      → IsReading part_spelling (IsMade (IsGoodStatement room) (λ s. Stating s)) IsPartEnd (made (λ s. Stating s) statements)
  stated_law room l = made_law (λ s. Stating s) statement_spelling (IsGoodStatement room) statements part_spelling IsPartEnd (λ s. refl) l

  shallow_part_law : IsReading statement_spelling (IsGoodStatement 1) IsStatementEnd statements → IsReading part_spelling (IsGoodPart 1) IsPartEnd (made (λ s. Stating s) statements)
  shallow_part_law l =
      made_all (λ s. Stating s) statement_spelling (IsGoodStatement 1) statements part_spelling (IsGoodPart 1) IsPartEnd (λ s. refl) (λ s h. h) from l
    where
      from : (p : BodyPart) → IsGoodPart 1 p → IsMade (IsGoodStatement 1) (λ s. Stating s) p
      from (Stating s) h = (s, h, refl)
      from (Declaring d) h = absurd (omega (arith, h.shallow, one d.first))
        where
          one : (v : Variable) → 1 ≤ variable_depth v
          one (Scalar n) = omega arith
          one (Initial n at e) = omega arith
          one (Array n p z q) = omega arith

  -- else a part is a declaration or a statement
  module _ (room : ℕ) (l : IsReading statement_spelling (IsGoodStatement (suc (suc room))) IsStatementEnd statements) where
    abbrev good : BodyPart → Type 0
    good = IsGoodPart (suc (suc room))

    abbrev inside_part : BodyPart → List Symbol
    inside_part p = beyond (part_spelling p)

    abbrev OfInt : ℕ → BodyPart → Type 0
    OfInt at p = IsMade (IsDeclarationOf room at) (λ d. Declaring d) p

    declared_front : (at : ℕ) (w : TypeWord) (v : Variable) (vs : List (ℕ × Variable)) (q : ℕ) → w ≡ type_word.Int at
        → part_spelling (Declaring (record { word = w; first = v; rest = vs; semicolon = q }))
        ≡ Symbol.Fixed at (codes "int") ∷ inside_part (Declaring (record { word = w; first = v; rest = vs; semicolon = q }))
    declared_front at w v vs q h =
        subst (λ u. part_spelling (Declaring (record { word = u; first = v; rest = vs; semicolon = q }))
        ≡ Symbol.Fixed at (codes "int") ∷ inside_part (Declaring (record { word = u; first = v; rest = vs; semicolon = q }))) (sym h) refl

    body_part_law : IsReading part_spelling good IsPartEnd (body_part room statements)
    body_part_law =
        by_mark_law (codes "int") (body_part room statements) (made (λ s. Stating s) statements) (λ at. made (λ d. Declaring d) (declaration_read room at))
        (λ n ss i. ap (part_from room statements n ss) i) (λ n ss at rest i. ap (part_from room statements n ss) i)
        part_spelling good IsPartEnd (IsMade (IsGoodStatement (suc (suc room))) (λ s. Stating s)) IsPartEnd OfInt (stated_law (suc (suc room)) l)
        (λ at. record {
          reading = made_law (λ d. Declaring d) inside_declaration (IsDeclarationOf room at) (declaration_read room at) inside_part IsPartEnd (λ d. refl) (declaration_law room at);
          front = λ p h. subst (λ u. part_spelling u ≡ Symbol.Fixed at (codes "int") ∷ inside_part u) h.2 (declared_front at h.0.word h.0.first h.0.rest h.0.semicolon h.1.word);
          to = λ p h. subst good h.2 h.1.good;
        })
        (λ p h. subst good h.2 h.1) (λ p r h e i. e) sorted
      where
        typed : (w : TypeWord) (v : Variable) (vs : List (ℕ × Variable)) (q : ℕ) → IsGoodDeclaration (suc (suc room)) (record { word = w; first = v; rest = vs; semicolon = q })
            → (at : ℕ) × OfInt at (Declaring (record { word = w; first = v; rest = vs; semicolon = q }))
        typed (type_word.Int at) v vs q g = (at, (record { word = type_word.Int at; first = v; rest = vs; semicolon = q }, record { good = g; word = refl }, refl))

        sorted : (p : BodyPart) → good p
            → (IsMade (IsGoodStatement (suc (suc room))) (λ s. Stating s) p × ((r : List Symbol) → IsPartEnd p r → IsPartEnd p r × (behind (codes "int") (part_spelling p ++ r) ≡ None)))
            ⊎ ((at : ℕ) × OfInt at p)
        sorted (Declaring d) g = inr (typed d.word d.first d.rest d.semicolon g)
        sorted (Stating s) g = inl ((s, g, refl), λ r e. (e, statement_untyped s r g.written))

-- so what stands in a block is read lawfully, if statements are
pub body_law : (room : ℕ) (statements : Reading Statement) → (1 ≤ room → IsReading statement_spelling (IsGoodStatement room) IsStatementEnd statements)
    → IsReading closed_spelling (IsGoodBody room) Anywhere (body_read room statements)
body_law zero statements l =
    made_all nothing (λ q. fixed q (codes "}")) Any (sign (codes "}")) closed_spelling (IsGoodBody 0) Anywhere (λ q. refl)
    (λ q h. record { written = tt; leveled = tt; shallow = omega arith }) (λ y g. from y.0 y.1 g) (sign_law (codes "}"))
  where
    nothing : ℕ → Body × ℕ
    nothing q = (Nothing, q)

    from : (b : Body) (q : ℕ) → IsGoodBody 0 (b, q) → IsMade Any nothing (b, q)
    from Nothing q g = (q, tt, refl)
    from (Declare d rest) q g = absurd (omega (arith, g.shallow))
    from (Then s rest) q g = absurd (omega (arith, g.shallow, one_statement s))
body_law (suc zero) statements l = closed_body_law 1 (made (λ s. Stating s) statements) (shallow_part_law statements (l (omega arith)))
body_law (suc (suc room)) statements l = closed_body_law (suc (suc room)) (body_part room statements) (body_part_law statements room (l (omega arith)))
