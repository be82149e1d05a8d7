-- What is said of statements and of what stands in a block.
use Rattle.std.proofs.Common.{ℕ, zero, suc, List, [], ◌∷◌, map, length, Option, Some, None, codes, ◌≡◌, ◌-◌, ◌≤◌, refl, sym, ◌∙◌, ap, subst, arith}
use Rattle.std.specs.Prelude.{Result, option_map}
use Rattle.std.proofs.lemmas.List.{length-map}
use Rattle.c_tree.specs.declared.names.Name.{Name}
use Rattle.c_tree.specs.declared.expression.Expr.{Expr}
use Rattle.c_tree.specs.declared.statement.Decl.{Decl}
use Rattle.c_tree.specs.declared.statement.Part.{Part}
use Rattle.c_tree.specs.declared.statement.Part.TheVariants as p
use Rattle.c_tree.specs.declared.statement.Stmt.{Stmt}
use Rattle.c_tree.specs.declared.statement.Stmt.TheVariants as s
use Rattle.readings.specs.Symbol.{Symbol}
use Rattle.readings.specs.Reading.{Read, Found, Stuck, Unread, read_on, behind, looked_up}
use Rattle.readings.specs.Readings.{Reading, ◌>>>◌, made, sign, worded_from}
use Rattle.readings.specs.declared.sign.Sign.{Sign}
use Rattle.readings.specs.declared.stop.Stop.{Stop}
use Rattle.readings.specs.declared.stop.Stop.TheVariants as stops
use Rattle.readings.specs.Seen.{seen, Comes, Fails, Says}
use Rattle.readings.proofs.Saying.{alike, at_once, comes_later, fails_alike, fails_later, fails_made, makes, says_alike}
use Rattle.c_tree.specs.Formula.{formula}
use Rattle.c_tree.specs.Statement.{Act, Statement, Simply, Braces, Body, Nothing, Declare, Then, body, chained, declaration, part, statement}
use Rattle.c_tree.proofs.StatementLaws.{part-Decl, part-Stmt, block_is, statement-Block, statement-If, statement-If_else}
use Rattle.c_grammar.specs.Words.{name}
use Rattle.c_grammar.specs.Acts.{act_behind}
use Rattle.c_grammar.specs.Declarations.{declaration_read}
use Rattle.c_grammar.specs.Until.{until, until_from}
use Rattle.c_grammar.specs.Statements.{BodyPart, Declaring, Stating, body_of, closed_body}
use Rattle.c_grammar.specs.ReadingStatements.{StatementStart, statement_starts, branch, part_from, statement_read, block_body}
use Rattle.c_statement.specs.Seen.{HasNoWord, before, boxed_of, named_within, node_starts, part_within, statement_behind}
use Rattle.c_statement.proofs.Gathering.{Gathers, gathers_end, gathers_fails}
use Rattle.c_statement.proofs.Saying.{made_twice}
use Rattle.c_statement.proofs.Words.{looked_up_more, or_else, stuck_here}

-- ---- statements by their first symbol

of_word : (room below n : ℕ) (ss : List Symbol) (at : ℕ) (text : List ℕ) (rest : List Symbol) → room ≡ suc below → ss ≡ Symbol.Fixed at text ∷ rest
    → statement_read room n ss ≡ worded_from (statement_behind below) n ss at rest (looked_up (statement_starts below) text)
unfolding statement_read block_body
of_word room below n ss at text rest one is = rw (one, is) refl

-- a keyword or a mark
pub statement_word : {A : Type 0} (found : A → Read Statement) (r : Result A Stop) (room below : ℕ) (ss : List Symbol) (at : ℕ) (text : List ℕ) (rest : List Symbol)
    → room ≡ suc below → ss ≡ Symbol.Fixed at text ∷ rest
    → Says found r (λ n u. worded_from (statement_behind below) n ss at u (looked_up (statement_starts below) text)) rest → Says found r (statement_read room) ss
statement_word found r room below ss at text rest one is h =
    says_alike found r (λ n u. worded_from (statement_behind below) n ss at u (looked_up (statement_starts below) text)) (statement_read room) rest ss
    (λ n. of_word room below n ss at text rest one is) h

of_name : (below n : ℕ) (ss : List Symbol) → HasNoWord ss → statement_read (suc below) n ss ≡ named_within below n ss
unfolding statement_read
of_name zero n [] h = refl
of_name zero n (Symbol.Fixed at text ∷ ss) h = absurd h
of_name zero n (Symbol.Named at text ∷ ss) h = refl
of_name zero n (Symbol.Number at value ∷ ss) h = refl
of_name zero n (Symbol.Quoted at text ∷ ss) h = refl
of_name (suc below) n [] h = refl
of_name (suc below) n (Symbol.Fixed at text ∷ ss) h = absurd h
of_name (suc below) n (Symbol.Named at text ∷ ss) h = refl
of_name (suc below) n (Symbol.Number at value ∷ ss) h = refl
of_name (suc below) n (Symbol.Quoted at text ∷ ss) h = refl

-- or none
pub statement_name : {A : Type 0} (found : A → Read Statement) (r : Result A Stop) (room below : ℕ) (ss : List Symbol) → room ≡ suc below → HasNoWord ss
    → Says found r (named_within below) ss → Says found r (statement_read room) ss
statement_name found r room below ss one none h =
    says_alike found r (named_within below) (statement_read room) ss ss (λ n. ap (λ k. statement_read k n ss) one ∙ of_name below n ss none) h

-- ---- simple statements

-- no room for one
pub named_narrow : (room : ℕ) (ss : List Sign) → room ≡ 0 → Fails (stops.Stuck (length ss)) (named_within room) (map seen ss)
named_narrow room ss none = stuck_here (named_within room) ss (λ n. ap (λ k. named_within k n (map seen ss)) none)

-- where there is room, so much is left below
pub above : (room : ℕ) → (room ≡ 0 → ⊥) → room ≡ suc (room - 1)
above zero some = absurd (some refl)
above (suc room) some = omega arith

pub one_above : (room : ℕ) → 1 ≤ room → room ≡ suc (room - 1)
one_above room some = omega (arith, some)

some_room : (room : ℕ) → (room ≡ 0 → ⊥) → 1 ≤ room
some_room zero some = absurd (some refl)
some_room (suc room) some = omega arith

pub some_below : (room : ℕ) → 1 ≤ room → (room ≡ 1 → ⊥) → 1 ≤ room - 1
some_below zero some more = absurd (omega (arith, some))
some_below (suc zero) some more = absurd (more refl)
some_below (suc (suc room)) some more = omega arith

pub two_above : (room : ℕ) → 1 ≤ room → (room ≡ 1 → ⊥) → room ≡ suc (suc (room - 2))
two_above zero some more = absurd (omega (arith, some))
two_above (suc zero) some more = absurd (more refl)
two_above (suc (suc room)) some more = omega arith

abbrev ended_act : ℕ → Name → Reading (Act × ℕ)
ended_act below x = act_behind below x >>> sign (codes ";")

wide_named : (room below n : ℕ) (ss : List Symbol) → room ≡ suc below
    → named_within room n ss ≡ read_on (name n ss) (λ x s. made (λ (a, q). Simply a q) (ended_act below x) n s)
wide_named room below n ss one = rw one refl

-- what stands behind the name stops
pub named_fails : (stop : Stop) (room below : ℕ) (ss : List Symbol) (x : Name) (s : List Symbol) → room ≡ suc below → Comes name ss (Found x s)
    → Fails stop (act_behind below x >>> sign (codes ";")) s → Fails stop (named_within room) ss
named_fails stop room below ss x s one h k =
    fails_alike stop (named_within room) (λ n t. read_on (name n t) (λ y u. made (λ (a, q). Simply a q) (ended_act below y) n u)) ss ss (λ n. wide_named room below n ss one)
    (fails_later stop name (λ n y u. made (λ (a, q). Simply a q) (ended_act below y) n u) ss x s h (fails_made stop (λ (a, q). Simply a q) (ended_act below x) s k))

-- it is found
pub named_comes : (room below : ℕ) (ss : List Symbol) (x : Name) (s : List Symbol) (a : Act) (q : ℕ) (r : List Symbol) → room ≡ suc below → Comes name ss (Found x s)
    → Comes (act_behind below x >>> sign (codes ";")) s (Found (a, q) r) → Comes (named_within room) ss (Found (Simply a q) r)
named_comes room below ss x s a q r one h k =
    alike (λ n t. read_on (name n t) (λ y u. made (λ (a, q). Simply a q) (ended_act below y) n u)) (named_within room) ss ss (Found (Simply a q) r)
    (λ n. wide_named room below n ss one)
    (comes_later name (λ n y u. made (λ (a, q). Simply a q) (ended_act below y) n u) ss x s (Found (Simply a q) r) h (makes (λ (a, q). Simply a q) (ended_act below x) s (a, q) r k))

-- ---- words that begin a statement

starts_are : (room : ℕ) (text : List ℕ) → 1 ≤ room → looked_up (statement_starts room) text ≡ or_else (looked_up (statement_starts 0) text) (looked_up node_starts text)
starts_are zero text some = absurd (omega (arith, some))
starts_are (suc room) text some = looked_up_more (statement_starts 0) node_starts text

leaf_start : (room : ℕ) (text : List ℕ) (k : StatementStart) → Some k ≡ looked_up (statement_starts 0) text → looked_up (statement_starts room) text ≡ Some k
leaf_start zero text k e = sym e
leaf_start (suc room) text k e = starts_are (suc room) text (omega arith) ∙ ap (λ o. or_else o (looked_up node_starts text)) (sym e)

node_start : (room : ℕ) (text : List ℕ) (o : Option StatementStart) → 1 ≤ room → None ≡ looked_up (statement_starts 0) text → o ≡ looked_up node_starts text
    → looked_up (statement_starts room) text ≡ o
node_start room text o some none e = starts_are room text some ∙ ap (λ k. or_else k (looked_up node_starts text)) (sym none) ∙ sym e

no_start : (room : ℕ) (text : List ℕ) → room ≡ 0 → None ≡ looked_up (statement_starts 0) text → looked_up (statement_starts room) text ≡ None
no_start room text zero_is none = ap (λ k. looked_up (statement_starts k) text) zero_is ∙ sym none

-- what begins so; these are the symbols from the word on
abbrev pub begins : ℕ → List Symbol → ℕ → List ℕ → Reading Statement
begins room here at text n ss = worded_from (statement_behind room) n here at ss (looked_up (statement_starts room) text)

-- a statement without others within it
pub leaf_says : {A : Type 0} (found : A → Read Statement) (r : Result A Stop) (room : ℕ) (here : List Symbol) (at : ℕ) (text : List ℕ) (ss : List Symbol) (k : StatementStart)
    → Some k ≡ looked_up (statement_starts 0) text → Says found r (statement_behind room k at) ss → Says found r (begins room here at text) ss
leaf_says found r room here at text ss k e h =
    says_alike found r (statement_behind room k at) (begins room here at text) ss ss (λ n. ap (worded_from (statement_behind room) n here at ss) (leaf_start room text k e)) h

-- one that may have some
pub node_says : {A : Type 0} (found : A → Read Statement) (r : Result A Stop) (room : ℕ) (here : List Symbol) (at : ℕ) (text : List ℕ) (ss : List Symbol) (k : StatementStart)
    → 1 ≤ room → None ≡ looked_up (statement_starts 0) text → Some k ≡ looked_up node_starts text
    → Says found r (statement_behind room k at) ss → Says found r (begins room here at text) ss
node_says found r room here at text ss k some none e h =
    says_alike found r (statement_behind room k at) (begins room here at text) ss ss
    (λ n. ap (worded_from (statement_behind room) n here at ss) (node_start room text (Some k) some none e)) h

stuck_at : (room : ℕ) (here : List Sign) (at : ℕ) (text : List ℕ) (ss : List Symbol) → looked_up (statement_starts room) text ≡ None
    → Fails (stops.Stuck (length here)) (begins room (map seen here) at text) ss
stuck_at room here at text ss e = (map seen here, length-map here seen, at_once (λ n. ap (worded_from (statement_behind room) n (map seen here) at ss) e))

-- there is no room for one
pub node_narrow : (room : ℕ) (here : List Sign) (at : ℕ) (text : List ℕ) (ss : List Symbol) → room ≡ 0 → None ≡ looked_up (statement_starts 0) text
    → Fails (stops.Stuck (length here)) (begins room (map seen here) at text) ss
node_narrow room here at text ss zero_is none = stuck_at room here at text ss (no_start room text zero_is none)

-- no statement begins so
pub node_unknown : (room : ℕ) (here : List Sign) (at : ℕ) (text : List ℕ) (ss : List Symbol) → (room ≡ 0 → ⊥) → None ≡ looked_up (statement_starts 0) text
    → None ≡ looked_up node_starts text → Fails (stops.Stuck (length here)) (begins room (map seen here) at text) ss
node_unknown room here at text ss some none e = stuck_at room here at text ss (node_start room text None (some_room room some) none e)

-- ---- statements of their parts

pub braces_made : (at : ℕ) (ps : List Part) (q : ℕ) → statement (s.Block (record { opening = at; parts = ps; closing = q })) ≡ Braces at (body ps) q
braces_made at ps q =
    statement-Block (record { opening = at; parts = ps; closing = q }) ∙ ap (λ b. Braces b.0 b.1 b.2) (block_is (record { opening = at; parts = ps; closing = q }))

pub branch_made : (at p : ℕ) (c : Expr) (q : ℕ) (x : Stmt) (o : Option (ℕ × Stmt))
    → statement (s.If at p c q x o) ≡ branch at ((p, (formula c, q)), (statement x, option_map boxed_of o))
branch_made at p c q x None = statement-If at p c q x
branch_made at p c q x (Some (f, y)) = statement-If_else at p c q x f y

-- ---- blocks

narrow_block : (room n : ℕ) (ss : List Symbol) → room ≡ 1 → block_body room n ss ≡ made (λ q. (Nothing, q)) (sign (codes "}")) n ss
unfolding block_body
narrow_block room n ss one = rw one refl

-- a block with room for nothing
pub block_narrow : (room : ℕ) (ss : List Symbol) (ps : List Part) (q : ℕ) (r : List Symbol) → room ≡ 1 → ps ≡ [] → Comes (sign (codes "}")) ss (Found q r)
    → Comes (block_body room) ss (Found (body ps, q) r)
block_narrow room ss ps q r one none h =
    alike (made (λ q. (Nothing, q)) (sign (codes "}"))) (block_body room) ss ss (Found (body ps, q) r) (λ n. narrow_block room n ss one)
    (subst (λ b. Comes {A = Body × ℕ} (made (λ q. (Nothing, q)) (sign (codes "}"))) ss (Found (b, q) r)) (sym (ap body none)) (makes (λ q. (Nothing, q)) (sign (codes "}")) ss q r h))

pub block_narrow_fails : (stop : Stop) (room : ℕ) (ss : List Symbol) → room ≡ 1 → Fails stop (sign (codes "}")) ss → Fails stop (block_body room) ss
block_narrow_fails stop room ss one h =
    fails_alike stop (block_body room) (made (λ q. (Nothing, q)) (sign (codes "}"))) ss ss (λ n. narrow_block room n ss one)
    (fails_made stop (λ q. (Nothing, q)) (sign (codes "}")) ss h)

wide_block : (below n : ℕ) (ss : List Symbol) → 1 ≤ below → block_body (suc below) n ss ≡ closed_body (part_within below) n ss
unfolding block_body
wide_block zero n ss some = absurd (omega (arith, some))
wide_block (suc zero) n ss some = refl
wide_block (suc (suc below)) n ss some = refl

-- one with room for parts
pub block_wide : {A : Type 0} (found : A → Read (Body × ℕ)) (r : Result A Stop) (room below : ℕ) (ss : List Symbol) → room ≡ suc below → 1 ≤ below
    → Says found r (closed_body (part_within below)) ss → Says found r (block_body room) ss
block_wide found r room below ss one some h =
    says_alike found r (closed_body (part_within below)) (block_body room) ss ss (λ n. ap (λ k. block_body k n ss) one ∙ wide_block below n ss some) h

-- ---- parts

-- things up to a mark, each made into something else
abbrev remade : {A B : Type 0} → (A → B) → List A × ℕ → List B × ℕ
remade make (xs, at) = (map make xs, at)

remade_more : {A B : Type 0} (make : A → B) (x : A) (a : Read (List A × ℕ))
    → read_on {B = List B × ℕ} (read_on {B = List B × ℕ} a (λ y t. Found (remade make y) t)) (λ (xs, at) t. Found (make x ∷ xs, at) t)
    ≡ read_on {B = List B × ℕ} (read_on {B = List A × ℕ} a (λ (xs, at) t. Found (x ∷ xs, at) t)) (λ y t. Found (remade make y) t)
remade_more make x (Found y t) = refl
remade_more make x (Stuck t) = refl
remade_more make x Unread = refl

until_made : {A B : Type 0} (text : List ℕ) (make : A → B) (reads : Reading A) (n : ℕ) (ss : List Symbol)
    → until text (made make reads) n ss ≡ made (remade make) (until text reads) n ss
until_made text make reads zero ss = refl
until_made {A = A} {B = B} text make reads (suc n) ss = by (λ s. until_made text make reads n s) (behind text ss)
  where
    on : ((s : List Symbol) → until text (made make reads) n s ≡ made (remade make) (until text reads) n s) → (a : Read A)
        → read_on {B = List B × ℕ} (read_on {B = B} a (λ x s. Found (make x) s)) (λ y s. read_on (until text (made make reads) n s) (λ (xs, at) t. Found (y ∷ xs, at) t))
        ≡ read_on {B = List B × ℕ} (read_on {B = List A × ℕ} a (λ x s. read_on (until text reads n s) (λ (xs, at) t. Found (x ∷ xs, at) t))) (λ y t. Found (remade make y) t)
    on h (Found x s) = ap (λ b. read_on {B = List B × ℕ} b (λ (xs, at) t. Found (make x ∷ xs, at) t)) (h s) ∙ remade_more make x (until text reads n s)
    on h (Stuck s) = refl
    on h Unread = refl

    by : ((s : List Symbol) → until text (made make reads) n s ≡ made (remade make) (until text reads) n s) → (o : Option (ℕ × List Symbol))
        → until_from (made make reads) (λ s. until text (made make reads) n s) (suc n) ss o
        ≡ read_on {B = List B × ℕ} (until_from reads (λ s. until text reads n s) (suc n) ss o) (λ y t. Found (remade make y) t)
    by h None = on h (reads (suc n) ss)
    by h (Some (at, rest)) = refl

-- the body that they make
body_is : (ps : List BodyPart) → body_of ps ≡ chained (map before ps)
body_is [] = refl
body_is (Declaring d ∷ ps) = ap (λ b. Declare d b) (body_is ps)
body_is (Stating x ∷ ps) = ap (λ b. Then x b) (body_is ps)

abbrev closing : List (Body → Body) × ℕ → Body × ℕ
closing (fs, q) = (chained fs, q)

closed_is : (reads : Reading BodyPart) (n : ℕ) (ss : List Symbol) → closed_body reads n ss ≡ made closing (until (codes "}") (made before reads)) n ss
closed_is reads n ss = by (until (codes "}") reads n ss) ∙ ap (λ a. read_on a (λ y t. Found (closing y) t)) (sym (until_made (codes "}") before reads n ss))
  where
    by : (a : Read (List BodyPart × ℕ))
        → read_on {B = Body × ℕ} a (λ (ps, q) t. Found (body_of ps, q) t)
        ≡ read_on {B = Body × ℕ} (read_on {B = List (Body → Body) × ℕ} a (λ y t. Found (remade before y) t)) (λ y t. Found (closing y) t)
    by (Found (ps, q) t) = ap (λ b. Found (b, q) t) (body_is ps)
    by (Stuck t) = refl
    by Unread = refl

-- the second brace is in front
pub parts_end : (reads : Reading BodyPart) (ss : List Symbol) (found : List Part) (here : List Symbol) (at : ℕ) (rest : List Symbol)
    → Gathers (codes "}") (made before reads) part ss found here → Some (at, rest) ≡ behind (codes "}") here
    → Comes (closed_body reads) ss (Found (body found, at) rest)
parts_end reads ss found here at rest g e =
    alike (made closing (until (codes "}") (made before reads))) (closed_body reads) ss ss (Found (body found, at) rest) (λ n. closed_is reads n ss)
    (makes closing (until (codes "}") (made before reads)) ss (map part found, at) rest (gathers_end (codes "}") (made before reads) part ss found here at rest g e))

-- the next part stops
pub parts_fail : (stop : Stop) (reads : Reading BodyPart) (ss : List Symbol) (found : List Part) (here : List Symbol)
    → Gathers (codes "}") (made before reads) part ss found here → None ≡ behind (codes "}") here → Fails stop (made before reads) here
    → Fails stop (closed_body reads) ss
parts_fail stop reads ss found here g e h =
    fails_alike stop (closed_body reads) (made closing (until (codes "}") (made before reads))) ss ss (λ n. closed_is reads n ss)
    (fails_made stop closing (until (codes "}") (made before reads)) ss (gathers_fails stop (codes "}") (made before reads) part ss found here g e h))

-- ---- one part

abbrev stating : ℕ → Reading (Body → Body)
stating room = made (λ x rest. Then x rest) (statement_read room)

one_statement : (n : ℕ) (ss : List Symbol) (room : ℕ) → room ≡ 1 → made before (part_within room) n ss ≡ stating room n ss
one_statement n ss room one = rw one (made_twice (λ x. Stating x) before (statement_read 1) n ss)

-- a statement, where there is room for one alone
pub part_alone : {A : Type 0} (found : A → Read (Body → Body)) (r : Result A Stop) (room : ℕ) (ss : List Symbol) → room ≡ 1 → Says found r (stating room) ss
    → Says found r (made before (part_within room)) ss
part_alone found r room ss one h = says_alike found r (stating room) (made before (part_within room)) ss ss (λ n. one_statement n ss room one) h

-- behind a part, whatever is in front
between : (room below n : ℕ) (ss : List Symbol) (o : Option (ℕ × List Symbol)) → room ≡ suc (suc below) → o ≡ behind (codes "int") ss
    → made before (part_within room) n ss ≡ read_on (part_from below (statement_read room) n ss o) (λ y t. Found (before y) t)
between room below n ss o two e = rw two (ap (λ z. read_on (part_from below (statement_read (suc (suc below))) n ss z) (λ y t. Found (before y) t)) (sym e))

-- a statement
pub part_states : {A : Type 0} (found : A → Read (Body → Body)) (r : Result A Stop) (room below : ℕ) (ss : List Symbol) → room ≡ suc (suc below) → None ≡ behind (codes "int") ss
    → Says found r (stating room) ss → Says found r (made before (part_within room)) ss
part_states found r room below ss two e h =
    says_alike found r (stating room) (made before (part_within room)) ss ss
    (λ n. between room below n ss None two e ∙ made_twice (λ x. Stating x) before (statement_read room) n ss) h

-- a declaration
declaring : (room below n : ℕ) (ss : List Symbol) (at : ℕ) (rest : List Symbol) → room ≡ suc (suc below) → Some (at, rest) ≡ behind (codes "int") ss
    → made before (part_within room) n ss ≡ made (λ d b. Declare d b) (declaration_read below at) n rest
declaring room below n ss at rest two e =
    between room below n ss (Some (at, rest)) two e ∙ made_twice (λ d. Declaring d) before (declaration_read below at) n rest

declared : (d : Decl) → part (p.Decl d) ≡ Declare (declaration d)
declared d = λ i rest. part-Decl d rest i

pub part_declares : (room below : ℕ) (ss : List Symbol) (at : ℕ) (rest : List Symbol) (d : Decl) (s : List Symbol) → room ≡ suc (suc below) → Some (at, rest) ≡ behind (codes "int") ss
    → Comes (declaration_read below at) rest (Found (declaration d) s) → Comes (made before (part_within room)) ss (Found (part (p.Decl d)) s)
part_declares room below ss at rest d s two e h =
    alike (made (λ d b. Declare d b) (declaration_read below at)) (made before (part_within room)) rest ss (Found (part (p.Decl d)) s)
    (λ n. declaring room below n ss at rest two e)
    (subst (λ f. Comes (made (λ d b. Declare d b) (declaration_read below at)) rest (Found f s)) (sym (declared d))
    (makes (λ d b. Declare d b) (declaration_read below at) rest (declaration d) s h))

pub part_declares_fails : (stop : Stop) (room below : ℕ) (ss : List Symbol) (at : ℕ) (rest : List Symbol) → room ≡ suc (suc below) → Some (at, rest) ≡ behind (codes "int") ss
    → Fails stop (declaration_read below at) rest → Fails stop (made before (part_within room)) ss
part_declares_fails stop room below ss at rest two e h =
    fails_alike stop (made before (part_within room)) (made (λ d b. Declare d b) (declaration_read below at)) ss rest (λ n. declaring room below n ss at rest two e)
    (fails_made stop (λ d b. Declare d b) (declaration_read below at) rest h)

-- a statement as a part
pub stated : (x : Stmt) → part (p.Stmt x) ≡ Then (statement x)
stated x = λ i rest. part-Stmt x rest i

pub states : (room : ℕ) (ss : List Symbol) (x : Stmt) (s : List Symbol) → Comes (statement_read room) ss (Found (statement x) s)
    → Comes (made (λ x rest. Then x rest) (statement_read room)) ss (Found (part (p.Stmt x)) s)
states room ss x s h =
    subst (λ f. Comes (made (λ x rest. Then x rest) (statement_read room)) ss (Found f s)) (sym (stated x))
    (makes (λ x rest. Then x rest) (statement_read room) ss (statement x) s h)
