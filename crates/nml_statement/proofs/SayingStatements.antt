-- What is said of readings in which each part goes on from the one before it, and of statements.
use Rattle.std.proofs.Common.{ℕ, zero, suc, ◌≤◌, ◌-◌, Bool, false, true, if◌then◌else◌, nat_le, codes, List, [], ◌∷◌, ◌++◌, map, Option, Some, None, ◌≡◌, refl, sym, ◌∙◌, ap, subst, arith}
use Rattle.std.specs.Option.{option_map}
use Rattle.nml_tree.specs.declared.names.Name.{Name}
use Rattle.nml_tree.specs.declared.expression.Expr.{Expr}
use Rattle.nml_tree.specs.declared.statement.Place.{Place}
use Rattle.nml_tree.specs.declared.statement.Stmt.{Stmt}
use Rattle.readings.specs.Symbol.{Symbol}
use Rattle.nml_tree.specs.Formula.{Formula, formula}
use Rattle.nml_tree.specs.Block.{Block, Index, Done, Assign, Part, Halt, If, IfElse, chained, stmt, block, index}
use Rattle.nml_tree.proofs.BlockLaws.{stmt-Assign, stmt-Part, stmt-Halt, stmt-If, stmt-If_else}
use Rattle.readings.specs.Reading.{Read, Found, Stuck, Unread, read_on, behind, mark, with_room}
use Rattle.nml_grammar.specs.Reading.{climb}
use Rattle.readings.specs.Readings.{Reading, ◌>>>◌, made, sign, optional, optional_from}
use Rattle.nml_grammar.specs.ReadingStatements.{Start, start, assignment, branch_end, statement, block_from, statements}
use Rattle.readings.specs.declared.stop.Stop.{Stop}
use Rattle.readings.specs.Seen.{Comes, Fails}
use Rattle.nml_statement.specs.Seen.{block_of, expression_of}
use Rattle.nml_statement.specs.SeenStatements.{equals, ending, branches}
use Rattle.readings.proofs.Saying.{at_once, ends, goes_on, comes_later, with_none}
use Rattle.nml_tree.specs.declared.statement.Stmt.TheVariants as s
use Rattle.readings.specs.declared.stop.Stop.TheVariants as stops

-- the reading is stuck where a further node would begin
pub comes_narrow : {A : Type 0} (room : ℕ) (here : List Symbol → List Symbol) (reads : Reading A) (ss : List Symbol) → room ≤ 1
    → Comes (λ n s. with_room room (here s) (reads n s)) ss (Stuck (here ss))
comes_narrow room here reads ss none = at_once (λ n. with_none room (here ss) (reads n ss) none)

-- ---- what a statement puts before a block

-- an assignment
pub put-Assign : (p : Place) (at : ℕ) (x : Expr) (semicolon : ℕ)
    → stmt (s.Assign p at x semicolon) ≡ Assign p.name (index p.index) at (formula x) semicolon
put-Assign p at x semicolon = λ i rest. stmt-Assign p at x semicolon rest i

-- the action of a part
pub put-Part : (n : Name) (dot at semicolon : ℕ) → stmt (s.Part n dot at semicolon) ≡ Part n dot at semicolon
put-Part n dot at semicolon = λ i rest. stmt-Part n dot at semicolon rest i

-- a halt
pub put-Halt : (at p : ℕ) (x : Expr) (q semicolon : ℕ) → stmt (s.Halt at p x q semicolon) ≡ Halt at p (formula x) q semicolon
put-Halt at p x q semicolon = λ i rest. stmt-Halt at p x q semicolon rest i

-- ---- `= e ;`

-- three, of which the last alone is to be read
three_last : {A B C D : Type 0} (c : Read C) (x : A) (y : B) (make : A → B → C → D)
    → read_on c (λ z u. Found (make x y z) u) ≡ read_on {A = A × (B × C)}
    (read_on {B = A × (B × C)} (read_on {B = B × C} c (λ z u. Found (y, z) u)) (λ q u. Found (x, q) u)) (λ p u. Found (make p.0 p.1.0 p.1.1) u)
three_last (Found z u) x y make = refl
three_last (Stuck u) x y make = refl
three_last Unread x y make = refl

-- three, of which the first was read
three_later : {A B C D : Type 0} (b : Read B) (third : List Symbol → Read C) (x : A) (make : A → B → C → D)
    → read_on b (λ y t. read_on (third t) (λ z u. Found (make x y z) u))
    ≡ read_on {A = A × (B × C)} (read_on {B = A × (B × C)} (read_on {B = B × C} b (λ y t. read_on (third t) (λ z u. Found (y, z) u)))
    (λ q u. Found (x, q) u)) (λ p u. Found (make p.0 p.1.0 p.1.1) u)
three_later (Found y t) third x make = three_last (third t) x y make
three_later (Stuck t) third x make = refl
three_later Unread third x make = refl

-- three one behind the other are read as one
three_as_one : {A B C D : Type 0} (a : Read A) (second : List Symbol → Read B) (third : List Symbol → Read C) (make : A → B → C → D)
    → read_on a (λ x s. read_on (second s) (λ y t. read_on (third t) (λ z u. Found (make x y z) u)))
    ≡ read_on {A = A × (B × C)} (read_on {B = A × (B × C)} a (λ x s. read_on
    (read_on {B = B × C} (second s) (λ y t. read_on (third t) (λ z u. Found (y, z) u))) (λ q u. Found (x, q) u)))
    (λ p u. Found (make p.0 p.1.0 p.1.1) u)
three_as_one (Found x s) second third make = three_later (second s) third x make
three_as_one (Stuck s) second third make = refl
three_as_one Unread second third make = refl

-- what is made of something, where there is room for a further node
made_in_room : {A B : Type 0} (narrow : Bool) (here : List Symbol) (a : Read A) (b : Read B) (make : A → B) → b ≡ read_on a (λ x s. Found (make x) s)
    → (if narrow then Stuck here else b) ≡ read_on (if narrow then Stuck here else a) (λ x s. Found (make x) s)
made_in_room true here a b make same = refl
made_in_room false here a b make same = same

-- what an assignment puts before a block
abbrev pub assigns : Name → Index → ℕ × (Formula × ℕ) → Block → Block
assigns n i x = Assign n i x.0 x.1.0 x.1.1

-- an assignment is made of it
pub assignment_is : (room : ℕ) (name : Name) (i : Index) (n : ℕ) (ss : List Symbol)
    → assignment (climb n) room name i ss ≡ made (assigns name i) (equals room) n ss
assignment_is room name i n ss =
    made_in_room (nat_le room 1) ss ((sign (codes "=") >>> (expression_of (room - 1) >>> sign (codes ";"))) n ss) _ (assigns name i)
    (three_as_one (mark (codes "=") ss) (climb n 0 (room - 1)) (mark (codes ";")) (λ at e semicolon. Assign name i at e semicolon))

-- ---- what ends a branch

-- what `if` and its branches put before a block
abbrev pub branched : ℕ → Formula → ℕ → Block × (Option (ℕ × Block) × (ℕ × ℕ)) → Block → Block
branched at c t (xs, (None, (end, semicolon))) = If at c t xs end semicolon
branched at c t (xs, (Some (f, ys), (end, semicolon))) = IfElse at c t xs f ys end semicolon

-- it is what they put
pub put-If : (at : ℕ) (c : Expr) (t : ℕ) (xs : List Stmt) (other : Option (ℕ × List Stmt)) (end semicolon : ℕ)
    → stmt (s.If at c t xs other end semicolon) ≡ branched at (formula c) t (block xs, (option_map (λ y. (y.0, block y.1)) other, (end, semicolon)))
put-If at c t xs None end semicolon = λ i rest. stmt-If at c t xs end semicolon rest i
put-If at c t xs (Some (f, ys)) end semicolon = λ i rest. stmt-If_else at c t xs f ys end semicolon rest i

-- the last symbol of a branch
last_mark : {A D : Type 0} (b : Read ℕ) (x : Block) (o : A) (end : ℕ) (make : Block × (A × (ℕ × ℕ)) → D)
    → read_on b (λ semicolon u. Found (make (x, (o, (end, semicolon)))) u)
    ≡ read_on {A = Block × (A × (ℕ × ℕ))} (read_on {B = Block × (A × (ℕ × ℕ))}
    (read_on {B = A × (ℕ × ℕ)} (read_on {B = ℕ × ℕ} b (λ y u. Found (end, y) u)) (λ y u. Found (o, y) u)) (λ y u. Found (x, y) u))
    (λ z u. Found (make z) u)
last_mark (Found y u) x o end make = refl
last_mark (Stuck u) x o end make = refl
last_mark Unread x o end make = refl

-- the last two
last_marks : {A D : Type 0} (a : Read ℕ) (x : Block) (o : A) (make : Block × (A × (ℕ × ℕ)) → D)
    → read_on a (λ end s. read_on (mark (codes ";") s) (λ semicolon u. Found (make (x, (o, (end, semicolon)))) u))
    ≡ read_on {A = Block × (A × (ℕ × ℕ))} (read_on {B = Block × (A × (ℕ × ℕ))}
    (read_on {B = A × (ℕ × ℕ)} (read_on {B = ℕ × ℕ} a (λ end s. read_on (mark (codes ";") s) (λ y u. Found (end, y) u))) (λ y u. Found (o, y) u))
    (λ y u. Found (x, y) u)) (λ z u. Found (make z) u)
last_marks (Found end s) x o make = last_mark (mark (codes ";") s) x o end make
last_marks (Stuck s) x o make = refl
last_marks Unread x o make = refl

-- behind the statements of `else`
else_read : (n room at : ℕ) (c : Formula) (t : ℕ) (xs : Block) (f : ℕ) (b : Read Block)
    → read_on b (λ ys s1. read_on (mark (codes "endif") s1) (λ end s2. read_on (mark (codes ";") s2) (λ semicolon s3. Found (IfElse at c t xs f ys end semicolon) s3)))
    ≡ read_on {A = Block × (Option (ℕ × Block) × (ℕ × ℕ))} (read_on {B = Block × (Option (ℕ × Block) × (ℕ × ℕ))}
    (read_on {A = Option (ℕ × Block)} {B = Option (ℕ × Block) × (ℕ × ℕ)} (read_on {B = Option (ℕ × Block)} b (λ ys s. Found (Some (f, ys)) s))
    (λ o s. read_on (ending n s) (λ y u. Found (o, y) u))) (λ y u. Found (xs, y) u)) (λ z u. Found (branched at c t z) u)
else_read n room at c t xs f (Found ys s) = last_marks (mark (codes "endif") s) xs (Some (f, ys)) (branched at c t)
else_read n room at c t xs f (Stuck s) = refl
else_read n room at c t xs f Unread = refl

-- behind the statements of `then`
then_read : (n room at : ℕ) (c : Formula) (t : ℕ) (xs : Block) (ss : List Symbol) (o : Option (ℕ × List Symbol))
    → branch_end (statements n) room at c t xs ss o
    ≡ read_on {A = Block × (Option (ℕ × Block) × (ℕ × ℕ))} (read_on {B = Block × (Option (ℕ × Block) × (ℕ × ℕ))}
    (read_on {B = Option (ℕ × Block) × (ℕ × ℕ)} (optional_from (block_of (room - 1)) n ss o)
    (λ x s. read_on (ending n s) (λ y u. Found (x, y) u))) (λ y u. Found (xs, y) u)) (λ z u. Found (branched at c t z) u)
then_read n room at c t xs ss None = last_marks (mark (codes "endif") ss) xs None (branched at c t)
then_read n room at c t xs ss (Some (f, rest)) = else_read n room at c t xs f (statements n (room - 1) rest)

-- what stands behind `then`, once the statements are read
branches_read : (n room at : ℕ) (c : Formula) (t : ℕ) (b : Read Block)
    → read_on b (λ xs s. branch_end (statements n) room at c t xs s (behind (codes "else") s))
    ≡ read_on {A = Block × (Option (ℕ × Block) × (ℕ × ℕ))} (read_on {B = Block × (Option (ℕ × Block) × (ℕ × ℕ))} b
    (λ xs s. read_on ((optional (codes "else") (block_of (room - 1)) >>> ending) n s) (λ y u. Found (xs, y) u))) (λ z u. Found (branched at c t z) u)
branches_read n room at c t (Found xs s) = then_read n room at c t xs s (behind (codes "else") s)
branches_read n room at c t (Stuck s) = refl
branches_read n room at c t Unread = refl

-- what stands behind `then` is made of the branches
pub branches_are : (room at : ℕ) (c : Formula) (t : ℕ) (n : ℕ) (ss : List Symbol)
    → read_on (statements n (room - 1) ss) (λ xs s. branch_end (statements n) room at c t xs s (behind (codes "else") s)) ≡ made (branched at c t)
    (branches (room - 1)) n ss
branches_are room at c t n ss = branches_read n room at c t (statements n (room - 1) ss)

-- ---- statements one behind the other

-- what they put before a block
abbrev pub before : List (Block → Block) → Block → Block
before [] b = b
before (put ∷ puts) b = put (before puts b)

-- one more of them
before_more : (puts : List (Block → Block)) (put : Block → Block) (b : Block) → before (puts ++ put ∷ []) b ≡ before puts (put b)
before_more [] put b = refl
before_more (p ∷ puts) put b = ap p (before_more puts put b)

-- before nothing
before_none : (puts : List (Block → Block)) → before puts Done ≡ chained puts
before_none [] = refl
before_none (p ∷ puts) = ap p (before_none puts)

-- the first statement and what stands behind it
abbrev pub one_more : ℕ → List Symbol → Start → Reading Block
one_more room here x n s = read_on (statement (climb n) (statements n) room here x s) (λ put t. read_on (statements n room t) (λ b u. Found (put b) u))

-- with one call more they are read
pub called : (room : ℕ) (ss : List Symbol) (x : Start) (rest : List Symbol) (a : Read Block) → start ss ≡ Some (x, rest)
    → Comes (one_more room ss x) rest a → Comes (block_of room) ss a
called room ss x rest a is h = record { calls = suc h.calls; is = λ n le. one_call n le }
  where
    one_call : (n : ℕ) → suc h.calls ≤ n → statements n room ss ≡ a
    one_call zero le = absurd (omega (arith, le))
    one_call (suc n) le = ap (λ o. block_from (climb n) (statements n) room ss o) is ∙ h.is n (omega (arith, le))

-- none begins
pub called_none : (room : ℕ) (ss : List Symbol) → start ss ≡ None → Comes (block_of room) ss (Found Done ss)
called_none room ss is = record { calls = 1; is = λ n le. one_call n le }
  where
    one_call : (n : ℕ) → 1 ≤ n → statements n room ss ≡ Found Done ss
    one_call zero le = absurd (omega (arith, le))
    one_call (suc n) le = ap (λ o. block_from (climb n) (statements n) room ss o) is

-- whatever the reading of the rest comes to, with the statements so far before it, the whole comes to
pub record Goes (room : ℕ) (whole : List Symbol) (puts : List (Block → Block)) (rest : List Symbol) : Type 0 where
  pub found : (b : Block) (r : List Symbol) → Comes (block_of room) rest (Found b r) → Comes (block_of room) whole (Found (before puts b) r)
  pub stuck : (r : List Symbol) → Comes (block_of room) rest (Stuck r) → Comes (block_of room) whole (Stuck r)

-- with one statement more
pub goes_further : (room : ℕ) (whole : List Symbol) (puts : List (Block → Block)) (ss : List Symbol) (x : Start) (rest : List Symbol)
    (put : Block → Block) (behind_it : List Symbol)
    → Goes room whole puts ss → start ss ≡ Some (x, rest) → Comes (λ n s. statement (climb n) (statements n) room ss x s) rest (Found put behind_it)
    → Goes room whole (puts ++ put ∷ []) behind_it
goes_further room whole puts ss x rest put behind_it g is h =
    let first : Reading (Block → Block) = λ n s. statement (climb n) (statements n) room ss x s in
    let next : ℕ → (Block → Block) → List Symbol → Read Block = λ n p t. read_on (statements n room t) (λ b u. Found (p b) u) in
    record {
      found = λ b r k.
          subst (λ (d : Block). Comes (block_of room) whole (Found d r)) (sym (before_more puts put b))
          (g.found (put b) r (called room ss x rest (Found (put b) r) is
          (comes_later first next rest put behind_it (Found (put b) r) h (goes_on (λ n d u. Found (put d) u) k (at_once (λ n. refl))))));
      stuck = λ r k. g.stuck r (called room ss x rest (Stuck r) is
          (comes_later first next rest put behind_it (Stuck r) h (ends (λ n d u. Found (put d) u) k)));
    }

-- at the end
pub goes_end : (room : ℕ) (whole : List Symbol) (stmts : List Stmt) (rest : List Symbol) → Goes room whole (map stmt stmts) rest → start rest ≡ None
    → Comes (block_of room) whole (Found (block stmts) rest)
goes_end room whole stmts rest g is =
    subst (λ (d : Block). Comes (block_of room) whole (Found d rest)) (before_none (map stmt stmts)) (g.found Done rest (called_none room rest is))

-- where a statement stops
pub goes_fails : (stop : Stop) (room : ℕ) (whole : List Symbol) (puts : List (Block → Block)) (ss : List Symbol) (x : Start) (rest : List Symbol)
    → Goes room whole puts ss → start ss ≡ Some (x, rest)
    → Fails stop (λ n s. statement (climb n) (statements n) room ss x s) rest → Fails stop (block_of room) whole
goes_fails (stops.Stuck left) room whole puts ss x rest g is (r, len, h) =
    (r, len, g.stuck r (called room ss x rest (Stuck r) is (ends (λ n p t. read_on (statements n room t) (λ b u. Found (p b) u)) h)))
goes_fails stops.Memory room whole puts ss x rest g is t = tt
