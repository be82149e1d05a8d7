-- A reading of statements goes by the symbols up to the first one that it leaves: whatever stands behind that one, it comes to the same.
use Rattle.std.proofs.Common.{◌≡◌, ℕ, zero, suc, ◌-◌, List, [], ◌∷◌, ◌++◌, Option, Some, None, refl, ap, sym, ◌∙◌, subst, Bool, true, false}
use Rattle.std.specs.Prelude.{if◌then◌else◌, nat_le, codes}
use Rattle.nk_base.specs.Text.{text_eq}
use Rattle.nml_tree.specs.declared.names.Name.{Name}
use Rattle.readings.specs.Symbol.{Symbol}
use Rattle.nml_tree.specs.Formula.{Formula}
use Rattle.nml_tree.specs.Block.{Block, Index, Done, Assign, Part, Halt, If, IfElse}
use Rattle.readings.specs.Reading.{Read, Found, Stuck, read_on, looked_up, behind, mark}
use Rattle.nml_grammar.specs.Reading.{Reader, climb}
use Rattle.nml_grammar.specs.ReadingStatements.{Start, Naming, Halting, Branching, starts, start_of, start, Blocks, part, assignment, place, naming, halting, branch_end, branching, block_from, statements}
use Rattle.readings.specs.Lawful.{rest_of, with_rest, Locally, IsLocal}
use Rattle.readings.proofs.Local.{agree_local, empty_local, unread_locally, found_empty, stuck_at, found_before, found_local, taken, tested, after_local, mark_local}
use Rattle.nml_grammar.proofs.Local.{climb_local}

-- a test on whether the reading goes on, where nothing was taken
tested_here : {A : Type 0} (b : Bool) (reads : List Symbol → Read A) → IsLocal reads → IsLocal (λ t. if◌then◌else◌ {A = Read A} b (Stuck t) (reads t))
tested_here true reads l ss = record { front = []; whole = refl; same = λ c r s e. refl }
tested_here false reads l ss = l ss

-- one on whether the first of two readings goes on
tested_after : {A B : Type 0} (b : Bool) (reads : List Symbol → Read B) (others : List Symbol → Read A) (next : A → List Symbol → Read B) (first : Symbol) (ss : List Symbol)
    → ((t : List Symbol) → reads (first ∷ t) ≡ read_on (if◌then◌else◌ {A = Read A} b (Stuck (first ∷ t)) (others t)) next) → IsLocal (λ t. read_on (others t) next)
    → Locally reads (first ∷ ss) (read_on (if◌then◌else◌ {A = Read A} b (Stuck (first ∷ ss)) (others ss)) next)
tested_after true reads others next first ss h l = stuck_at reads first ss h
tested_after false reads others next first ss h l = taken reads (λ t. read_on (others t) next) first ss h (l ss)

-- what goes on behind a keyword or a mark where it is in front, perhaps after a test, and otherwise another way
module _ {A : Type 0} (text : List ℕ) (fork : List Symbol → Option (ℕ × List Symbol) → Read A) (b : Bool) (others : ℕ → List Symbol → Read A)
    (goes : (here : List Symbol) (at : ℕ) (rest : List Symbol) → fork here (Some (at, rest)) ≡ if◌then◌else◌ {A = Read A} b (Stuck here) (others at rest))
    (others_local : (at : ℕ) → IsLocal (others at)) (otherwise_local : IsLocal (λ t. fork t None)) where
  -- the whole, and the other way
  abbrev forked : List Symbol → Read A
  forked t = fork t (behind text t)

  abbrev otherwise : List Symbol → Read A
  otherwise t = fork t None

  forked_local : IsLocal forked
  forked_local [] = empty_local forked otherwise (fork [] None) (otherwise_local [])
  forked_local (Symbol.Fixed at other ∷ ss) = by (text_eq other text) refl
    where
      by : (q : Bool) → text_eq other text ≡ q → Locally forked (Symbol.Fixed at other ∷ ss) (fork (Symbol.Fixed at other ∷ ss) (if◌then◌else◌ {A = Option (ℕ × List Symbol)} q (Some (at, ss)) None))
      by true e =
          subst (λ a. Locally forked (Symbol.Fixed at other ∷ ss) a) (sym (goes (Symbol.Fixed at other ∷ ss) at ss))
          (tested b forked (others at) (Symbol.Fixed at other) ss
          (λ t. ap (λ q. fork (Symbol.Fixed at other ∷ t) (if◌then◌else◌ {A = Option (ℕ × List Symbol)} q (Some (at, t)) None)) e ∙ goes (Symbol.Fixed at other ∷ t) at t) (others_local at))
      by false e =
          agree_local forked otherwise (Symbol.Fixed at other) ss (otherwise (Symbol.Fixed at other ∷ ss))
          (λ t. ap (λ q. fork (Symbol.Fixed at other ∷ t) (if◌then◌else◌ {A = Option (ℕ × List Symbol)} q (Some (at, t)) None)) e) (otherwise_local (Symbol.Fixed at other ∷ ss))
  forked_local (Symbol.Named at other ∷ ss) = agree_local forked otherwise (Symbol.Named at other) ss (otherwise (Symbol.Named at other ∷ ss)) (λ t. refl) (otherwise_local (Symbol.Named at other ∷ ss))
  forked_local (Symbol.Number at value ∷ ss) = agree_local forked otherwise (Symbol.Number at value) ss (otherwise (Symbol.Number at value ∷ ss)) (λ t. refl) (otherwise_local (Symbol.Number at value ∷ ss))
  forked_local (Symbol.Quoted at other ∷ ss) = agree_local forked otherwise (Symbol.Quoted at other) ss (otherwise (Symbol.Quoted at other ∷ ss)) (λ t. refl) (otherwise_local (Symbol.Quoted at other ∷ ss))

-- ---- a statement
module _ (inner : Reader) (inner_local : (k room : ℕ) → IsLocal (inner k room)) (blocks : Blocks) (blocks_local : (room : ℕ) → IsLocal (blocks room)) where
  -- the last mark of a statement
  ended_local : (make : ℕ → Block → Block) → IsLocal (λ t. read_on (mark (codes ";") t) (λ q s. Found (make q) s))
  ended_local make = after_local (mark (codes ";")) (λ q s. Found (make q) s) (mark_local (codes ";")) (λ q. found_local (make q))

  part_local : (n : Name) (dot : ℕ) → IsLocal (part n dot)
  part_local n dot = after_local (mark (codes "action")) _ (mark_local (codes "action")) (λ at. ended_local (Part n dot at))

  assignment_local : (room : ℕ) (n : Name) (i : Index) → IsLocal (assignment inner room n i)
  assignment_local room n i =
      tested_here (nat_le room 1) _
      (after_local (mark (codes "=")) _ (mark_local (codes "="))
      (λ at. after_local (inner 0 (room - 1)) _ (inner_local 0 (room - 1)) (λ e. ended_local (Assign n i at e))))

  -- the expression in brackets, and the assignment behind it
  abbrev placed : ℕ → Name → ℕ → List Symbol → Read (Block → Block)
  placed room n p t = read_on (inner 0 (room - 1 - 1) t) (λ i s1. read_on (mark (codes "]") s1) (λ q s2. assignment inner room n (Some (p, i, q)) s2))

  placed_local : (room : ℕ) (n : Name) (p : ℕ) → IsLocal (placed room n p)
  placed_local room n p =
      after_local (inner 0 (room - 1 - 1)) _ (inner_local 0 (room - 1 - 1)) (λ i. after_local (mark (codes "]")) _ (mark_local (codes "]")) (λ q. assignment_local room n (Some (p, i, q))))

  place_local : (room : ℕ) (n : Name) → IsLocal (λ t. place inner room n t (behind (codes "[") t))
  place_local room n = forked_local (codes "[") (place inner room n) (nat_le (room - 1) 1) (placed room n) (λ here at rest. refl) (placed_local room n) (assignment_local room n None)

  naming_local : (room : ℕ) (n : Name) → IsLocal (λ t. naming inner room n t (behind (codes ".") t))
  naming_local room n = forked_local (codes ".") (naming inner room n) false (part n) (λ here at rest. refl) (part_local n) (place_local room n)

  halting_local : (room at : ℕ) → IsLocal (halting inner room at)
  halting_local room at =
      after_local (mark (codes "(")) _ (mark_local (codes "("))
      (λ p. after_local (inner 0 (room - 1)) _ (inner_local 0 (room - 1))
      (λ e. after_local (mark (codes ")")) _ (mark_local (codes ")")) (λ q. ended_local (Halt at p e q))))

  -- `if`: what stands behind `else`, and what may stand behind the first statements
  abbrev otherwise_end : ℕ → ℕ → Formula → ℕ → Block → ℕ → List Symbol → Read (Block → Block)
  otherwise_end room at c t xs f ss =
      read_on (blocks (room - 1) ss) (λ ys s1. read_on (mark (codes "endif") s1) (λ end s2. read_on (mark (codes ";") s2) (λ semicolon s3. Found (IfElse at c t xs f ys end semicolon) s3)))

  otherwise_end_local : (room at : ℕ) (c : Formula) (t : ℕ) (xs : Block) (f : ℕ) → IsLocal (otherwise_end room at c t xs f)
  otherwise_end_local room at c t xs f =
      after_local (blocks (room - 1)) _ (blocks_local (room - 1)) (λ ys. after_local (mark (codes "endif")) _ (mark_local (codes "endif")) (λ end. ended_local (IfElse at c t xs f ys end)))

  branch_end_local : (room at : ℕ) (c : Formula) (t : ℕ) (xs : Block) → IsLocal (λ u. branch_end blocks room at c t xs u (behind (codes "else") u))
  branch_end_local room at c t xs =
      forked_local (codes "else") (branch_end blocks room at c t xs) false (otherwise_end room at c t xs) (λ here f rest. refl) (otherwise_end_local room at c t xs)
      (after_local (mark (codes "endif")) _ (mark_local (codes "endif")) (λ end. ended_local (If at c t xs end)))

  branching_local : (room at : ℕ) → IsLocal (branching inner blocks room at)
  branching_local room at =
      after_local (inner 0 (room - 1)) _ (inner_local 0 (room - 1))
      (λ c. after_local (mark (codes "then")) _ (mark_local (codes "then"))
      (λ t. after_local (blocks (room - 1)) _ (blocks_local (room - 1)) (λ xs. branch_end_local room at c t xs)))

  -- ---- the statement in front, and those behind it
  abbrev reads_block : ℕ → List Symbol → Read Block
  reads_block room t = block_from inner blocks room t (start t)

  -- those behind it
  abbrev others : ℕ → (Block → Block) → List Symbol → Read Block
  others room put s = read_on (blocks room s) (λ b rest. Found (put b) rest)

  others_local : (room : ℕ) (put : Block → Block) → IsLocal (others room put)
  others_local room put = after_local (blocks room) (λ b rest. Found (put b) rest) (blocks_local room) (λ b. found_local (put b))

  -- what begins with a name, `halt` or `if`
  start_local : (room : ℕ) (first : Symbol) (x : Start) (ss : List Symbol) → ((t : List Symbol) → start (first ∷ t) ≡ Some (x, t)) → Locally (reads_block room) (first ∷ ss) (block_from inner blocks room (first ∷ ss) (Some (x, ss)))
  start_local room first (Naming n) ss h =
      taken (reads_block room) (λ t. read_on (naming inner room n t (behind (codes ".") t)) (others room)) first ss (λ t. ap (block_from inner blocks room (first ∷ t)) (h t))
      (after_local (λ t. naming inner room n t (behind (codes ".") t)) (others room) (naming_local room n) (others_local room) ss)
  start_local room first (Halting at) ss h =
      tested_after (nat_le room 1) (reads_block room) (halting inner room at) (others room) first ss (λ t. ap (block_from inner blocks room (first ∷ t)) (h t))
      (after_local (halting inner room at) (others room) (halting_local room at) (others_local room))
  start_local room first (Branching at) ss h =
      tested_after (nat_le room 1) (reads_block room) (branching inner blocks room at) (others room) first ss (λ t. ap (block_from inner blocks room (first ∷ t)) (h t))
      (after_local (branching inner blocks room at) (others room) (branching_local room at) (others_local room))

  worded_local : (room at : ℕ) (text : List ℕ) (ss : List Symbol) (o : Option (ℕ → Start)) → looked_up starts text ≡ o
      → Locally (reads_block room) (Symbol.Fixed at text ∷ ss) (block_from inner blocks room (Symbol.Fixed at text ∷ ss) (start_of at ss o))
  worded_local room at text ss None e = found_before (reads_block room) Done (Symbol.Fixed at text) ss (λ t. ap (λ o. block_from inner blocks room (Symbol.Fixed at text ∷ t) (start_of at t o)) e)
  worded_local room at text ss (Some word) e = start_local room (Symbol.Fixed at text) (word at) ss (λ t. ap (start_of at t) e)

  block_local : (room : ℕ) → IsLocal (reads_block room)
  block_local room [] = found_empty (reads_block room) Done
  block_local room (Symbol.Fixed at text ∷ ss) = worded_local room at text ss (looked_up starts text) refl
  block_local room (Symbol.Named at text ∷ ss) = start_local room (Symbol.Named at text) (Naming (record { at = at; text = text })) ss (λ t. refl)
  block_local room (Symbol.Number at value ∷ ss) = found_before (reads_block room) Done (Symbol.Number at value) ss (λ t. refl)
  block_local room (Symbol.Quoted at text ∷ ss) = found_before (reads_block room) Done (Symbol.Quoted at text) ss (λ t. refl)

-- ---- statements
pub statements_local : (n room : ℕ) → IsLocal (statements n room)
statements_local zero room ss = unread_locally (statements zero room) ss
statements_local (suc n) room ss = block_local (climb n) (climb_local n) (statements n) (statements_local n) room ss

-- where the reading is stuck before a symbol, it is stuck there whatever stands behind that symbol
pub stuck_block_whatever : (n room : ℕ) (ss : List Symbol) (c : Symbol) (r : List Symbol) → statements n room ss ≡ Stuck (c ∷ r)
    → (front : List Symbol) × (ss ≡ front ++ (c ∷ r)) × ((s : List Symbol) → statements n room (front ++ (c ∷ s)) ≡ Stuck (c ∷ s))
stuck_block_whatever n room ss c r e =
    let l = statements_local n room ss in
    (l.front, l.whole ∙ ap (λ a. l.front ++ rest_of a) e, λ s. l.same c r s (ap rest_of e) ∙ ap (λ a. with_rest a (c ∷ s)) e)

-- and what is found before a symbol is found before it whatever stands behind
pub found_block_whatever : (n room : ℕ) (ss : List Symbol) (b : Block) (c : Symbol) (r : List Symbol) → statements n room ss ≡ Found b (c ∷ r)
    → (front : List Symbol) × (ss ≡ front ++ (c ∷ r)) × ((s : List Symbol) → statements n room (front ++ (c ∷ s)) ≡ Found b (c ∷ s))
found_block_whatever n room ss b c r e =
    let l = statements_local n room ss in
    (l.front, l.whole ∙ ap (λ a. l.front ++ rest_of a) e, λ s. l.same c r s (ap rest_of e) ∙ ap (λ a. with_rest a (c ∷ s)) e)
