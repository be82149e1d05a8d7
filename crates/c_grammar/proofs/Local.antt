-- A reading goes by the symbols up to the first one that it leaves: whatever stands behind that one, it comes to the same.
use Rattle.std.proofs.Common.{◌≡◌, ℕ, zero, suc, ◌-◌, List, [], ◌∷◌, ◌++◌, Option, Some, None, refl, ap, ◌∙◌, Bool, true, false}
use Rattle.std.specs.Prelude.{if◌then◌else◌, nat_le, codes}
use Rattle.nk_base.specs.Text.{text_eq}
use Rattle.c_tree.specs.declared.names.Name.{Name}
use Rattle.c_tree.specs.declared.operator.Bin.{Bin}
use Rattle.readings.specs.Symbol.{Symbol}
use Rattle.c_tree.specs.Formula.{Formula, Prefix, Numeral, Named, Indexed, Called, CalledWith, Paren, Unary, Binary, NoMore, More}
use Rattle.c_tree.specs.Level.{binary_level, unary_level}
use Rattle.c_tree.specs.Depth.{depth}
use Rattle.readings.specs.Reading.{Read, Found, Stuck, read_on, looked_up, behind, mark, with_room}
use Rattle.c_grammar.specs.Reading.{operators, of_level, operator, Beginning, Opening, Operation, beginnings, Reader, Others, others_from, arguments, call_from, call, named, paren, operation, begun, operand, turn, climb, more, further}
use Rattle.readings.specs.Lawful.{rest_of, with_rest, Locally, IsLocal}
use Rattle.readings.proofs.Local.{unread_locally, stuck_empty, found_empty, stuck_at, found_before, found_local, taken, tested, after_local, mark_local, agree_local, empty_local}
use Rattle.readings.proofs.CombiningMarks.{by_mark_local}

-- a test on whether there is room, before all that is read
room_local : {A : Type 0} (room : ℕ) (reads : List Symbol → Read A) → IsLocal reads → IsLocal (λ t. with_room room t (reads t))
room_local {A = A} room reads l ss = by (nat_le room 1) refl
  where
    by : (b : Bool) → nat_le room 1 ≡ b → Locally (λ t. with_room room t (reads t)) ss (if◌then◌else◌ {A = Read A} b (Stuck ss) (reads ss))
    by true e = record { front = []; whole = refl; same = λ c r s i. ap (λ b. if◌then◌else◌ {A = Read A} b (Stuck (c ∷ s)) (reads (c ∷ s))) e }
    by false e =
        let m = l ss in
        record { front = m.front; whole = m.whole; same = λ c r s i. ap (λ b. if◌then◌else◌ {A = Read A} b (Stuck (m.front ++ (c ∷ s))) (reads (m.front ++ (c ∷ s)))) e ∙ m.same c r s i }

-- ---- operands
module _ (inner : Reader) (inner_local : (k room : ℕ) → IsLocal (inner k room)) (others : Others) (others_local : (room : ℕ) → IsLocal (others room)) where
  -- the last mark of a node
  closed_local : (text : List ℕ) (make : ℕ → Formula) → IsLocal (λ t. read_on (mark text t) (λ q s. Found (make q) s))
  closed_local text make = after_local (mark text) (λ q s. Found (make q) s) (mark_local text) (λ q. found_local (make q))

  paren_local : (room at : ℕ) → IsLocal (paren inner room at)
  paren_local room at = after_local (inner 0 (room - 1)) (λ x r. read_on (mark (codes ")") r) (λ q s. Found (Paren at x q) s)) (inner_local 0 (room - 1)) (λ x. closed_local (codes ")") (Paren at x))

  operation_local : (room : ℕ) (op : Prefix) (at : ℕ) → IsLocal (operation inner room op at)
  operation_local room op at = after_local (inner unary_level (room - 1)) (λ x s. Found (Unary op at x) s) (inner_local unary_level (room - 1)) (λ x. found_local (Unary op at x))

  -- further arguments
  pub others_from_local : (room : ℕ) → IsLocal (λ t. others_from inner others room t (behind (codes ",") t))
  others_from_local room =
      by_mark_local (codes ",") (λ n t. others_from inner others room t (behind (codes ",") t)) (λ n t. Found NoMore t)
      (λ comma n t. read_on (inner 0 room t) (λ x s. read_on (others room s) (λ xs u. Found (More comma x xs) u)))
      (λ n ss i. ap (others_from inner others room ss) i) (λ n ss at rest i. ap (others_from inner others room ss) i)
      (λ n. found_local NoMore)
      (λ comma n. after_local (inner 0 room) _ (inner_local 0 room) (λ x. after_local (others room) _ (others_local room) (λ xs. found_local (More comma x xs)))) 0

  arguments_local : (room : ℕ) (n : Name) (p : ℕ) → IsLocal (arguments inner others room n p)
  arguments_local room n p =
      after_local (inner 0 (room - 1)) _ (inner_local 0 (room - 1))
      (λ x. after_local (others (room - 1)) _ (others_local (room - 1)) (λ xs. closed_local (codes ")") (CalledWith n p x xs)))

  -- what stands behind a parenthesis
  call_from_local : (room : ℕ) (n : Name) (p : ℕ) → IsLocal (λ t. call_from inner others room n p t (behind (codes ")") t))
  call_from_local room n p =
      by_mark_local (codes ")") (λ m t. call_from inner others room n p t (behind (codes ")") t)) (λ m t. with_room room t (arguments inner others room n p t))
      (λ q m t. Found (Called n p q) t)
      (λ m ss i. ap (call_from inner others room n p ss) i) (λ m ss at rest i. ap (call_from inner others room n p ss) i)
      (λ m. room_local room (arguments inner others room n p) (arguments_local room n p)) (λ q m. found_local (Called n p q)) 0

  abbrev called : ℕ → Name → List Symbol → Read Formula
  called room n t = call inner others room n t (behind (codes "(") t)

  call_local : (room : ℕ) (n : Name) → IsLocal (called room n)
  call_local room n =
      by_mark_local (codes "(") (λ m t. called room n t) (λ m t. Found (Named n) t) (λ p m t. call_from inner others room n p t (behind (codes ")") t))
      (λ m ss i. ap (call inner others room n ss) i) (λ m ss at rest i. ap (call inner others room n ss) i)
      (λ m. found_local (Named n)) (λ p m. call_from_local room n p) 0

  -- a name, and the expression in brackets behind it if there is one, or else a call
  bracket_local : (room : ℕ) (n : Name) (p : ℕ) → IsLocal (λ t. read_on (inner 0 (room - 1) t) (λ i r. read_on (mark (codes "]") r) (λ q s. Found (Indexed n p i q) s)))
  bracket_local room n p = after_local (inner 0 (room - 1)) (λ i r. read_on (mark (codes "]") r) (λ q s. Found (Indexed n p i q) s)) (inner_local 0 (room - 1)) (λ i. closed_local (codes "]") (Indexed n p i))

  abbrev suffixed : ℕ → Name → List Symbol → Read Formula
  suffixed room n t = named inner others room n t (behind (codes "[") t)

  named_local : (room : ℕ) (n : Name) → IsLocal (suffixed room n)
  named_local room n [] = empty_local (suffixed room n) (called room n) (called room n []) (call_local room n [])
  named_local room n (Symbol.Fixed at text ∷ ss) = by (text_eq text (codes "[")) refl
    where
      by : (b : Bool) → text_eq text (codes "[") ≡ b → Locally (suffixed room n) (Symbol.Fixed at text ∷ ss) (named inner others room n (Symbol.Fixed at text ∷ ss) (if◌then◌else◌ {A = Option (ℕ × List Symbol)} b (Some (at, ss)) None))
      by true e =
          tested (nat_le room 1) (suffixed room n) (λ t. read_on (inner 0 (room - 1) t) (λ i r. read_on (mark (codes "]") r) (λ q s. Found (Indexed n at i q) s))) (Symbol.Fixed at text) ss
          (λ t. ap (λ b. named inner others room n (Symbol.Fixed at text ∷ t) (if◌then◌else◌ {A = Option (ℕ × List Symbol)} b (Some (at, t)) None)) e) (bracket_local room n at)
      by false e =
          agree_local (suffixed room n) (called room n) (Symbol.Fixed at text) ss (called room n (Symbol.Fixed at text ∷ ss))
          (λ t. ap (λ b. named inner others room n (Symbol.Fixed at text ∷ t) (if◌then◌else◌ {A = Option (ℕ × List Symbol)} b (Some (at, t)) None)) e)
          (call_local room n (Symbol.Fixed at text ∷ ss))
  named_local room n (Symbol.Named at text ∷ ss) =
      agree_local (suffixed room n) (called room n) (Symbol.Named at text) ss (called room n (Symbol.Named at text ∷ ss)) (λ t. refl) (call_local room n (Symbol.Named at text ∷ ss))
  named_local room n (Symbol.Number at value ∷ ss) =
      agree_local (suffixed room n) (called room n) (Symbol.Number at value) ss (called room n (Symbol.Number at value ∷ ss)) (λ t. refl) (call_local room n (Symbol.Number at value ∷ ss))
  named_local room n (Symbol.Quoted at text ∷ ss) =
      agree_local (suffixed room n) (called room n) (Symbol.Quoted at text) ss (called room n (Symbol.Quoted at text ∷ ss)) (λ t. refl) (call_local room n (Symbol.Quoted at text ∷ ss))

  -- what begins with a mark
  begun_local : (room at : ℕ) (text : List ℕ) (ss : List Symbol) (o : Option Beginning) → looked_up beginnings text ≡ o
      → Locally (operand inner others room) (Symbol.Fixed at text ∷ ss) (begun inner room (Symbol.Fixed at text ∷ ss) at ss o)
  begun_local room at text ss None e = stuck_at (operand inner others room) (Symbol.Fixed at text) ss (λ t. ap (begun inner room (Symbol.Fixed at text ∷ t) at t) e)
  begun_local room at text ss (Some Opening) e =
      tested (nat_le room 1) (operand inner others room) (paren inner room at) (Symbol.Fixed at text) ss (λ t. ap (begun inner room (Symbol.Fixed at text ∷ t) at t) e) (paren_local room at)
  begun_local room at text ss (Some (Operation op)) e =
      tested (nat_le room 1) (operand inner others room) (operation inner room op at) (Symbol.Fixed at text) ss (λ t. ap (begun inner room (Symbol.Fixed at text ∷ t) at t) e) (operation_local room op at)

  operand_local : (room : ℕ) → IsLocal (operand inner others room)
  operand_local room [] = stuck_empty (operand inner others room)
  operand_local room (Symbol.Fixed at text ∷ ss) = begun_local room at text ss (looked_up beginnings text) refl
  operand_local room (Symbol.Named at text ∷ ss) =
      taken (operand inner others room) (suffixed room (record { at = at; text = text })) (Symbol.Named at text) ss (λ t. refl) (named_local room (record { at = at; text = text }) ss)
  operand_local room (Symbol.Number at value ∷ ss) =
      taken (operand inner others room) (λ t. Found (Numeral (record { at = at; value = value })) t) (Symbol.Number at value) ss (λ t. refl) (found_local (Numeral (record { at = at; value = value })) ss)
  operand_local room (Symbol.Quoted at text ∷ ss) = stuck_at (operand inner others room) (Symbol.Quoted at text) ss (λ t. refl)

  -- ---- a turn of the loop
  module _ (next : Formula → List Symbol → Read Formula) (next_local : (x : Formula) → IsLocal (next x)) where
    abbrev goes : ℕ → ℕ → Formula → List Symbol → Read Formula
    goes k room left t = turn inner next room left t (operator k t)

    right_local : (room : ℕ) (left : Formula) (op : Bin) (at : ℕ) → IsLocal (λ t. read_on (inner (suc (binary_level op)) (room - 1) t) (λ right s. next (Binary op left at right) s))
    right_local room left op at =
        after_local (inner (suc (binary_level op)) (room - 1)) (λ right s. next (Binary op left at right) s) (inner_local (suc (binary_level op)) (room - 1)) (λ right. next_local (Binary op left at right))

    operator_local : (k room : ℕ) (left : Formula) (at : ℕ) (text : List ℕ) (ss : List Symbol) (o : Option Bin) → looked_up operators text ≡ o
        → Locally (goes k room left) (Symbol.Fixed at text ∷ ss) (turn inner next room left (Symbol.Fixed at text ∷ ss) (of_level k at ss o))
    operator_local k room left at text ss None e = found_before (goes k room left) left (Symbol.Fixed at text) ss (λ t. ap (λ o. turn inner next room left (Symbol.Fixed at text ∷ t) (of_level k at t o)) e)
    operator_local k room left at text ss (Some op) e = by (nat_le k (binary_level op)) refl
      where
        by : (b : Bool) → nat_le k (binary_level op) ≡ b
            → Locally (goes k room left) (Symbol.Fixed at text ∷ ss) (turn inner next room left (Symbol.Fixed at text ∷ ss) (if◌then◌else◌ {A = Option (Bin × ℕ × List Symbol)} b (Some (op, at, ss)) None))
        by true f =
            tested (nat_le room (depth left)) (goes k room left) (λ t. read_on (inner (suc (binary_level op)) (room - 1) t) (λ right s. next (Binary op left at right) s)) (Symbol.Fixed at text) ss
            (λ t. ap (λ o. turn inner next room left (Symbol.Fixed at text ∷ t) (of_level k at t o)) e
            ∙ ap (λ b. turn inner next room left (Symbol.Fixed at text ∷ t) (if◌then◌else◌ {A = Option (Bin × ℕ × List Symbol)} b (Some (op, at, t)) None)) f)
            (right_local room left op at)
        by false f =
            found_before (goes k room left) left (Symbol.Fixed at text) ss
            (λ t. ap (λ o. turn inner next room left (Symbol.Fixed at text ∷ t) (of_level k at t o)) e
            ∙ ap (λ b. turn inner next room left (Symbol.Fixed at text ∷ t) (if◌then◌else◌ {A = Option (Bin × ℕ × List Symbol)} b (Some (op, at, t)) None)) f)

    turn_local : (k room : ℕ) (left : Formula) → IsLocal (goes k room left)
    turn_local k room left [] = found_empty (goes k room left) left
    turn_local k room left (Symbol.Fixed at text ∷ ss) = operator_local k room left at text ss (looked_up operators text) refl
    turn_local k room left (Symbol.Named at text ∷ ss) = found_before (goes k room left) left (Symbol.Named at text) ss (λ t. refl)
    turn_local k room left (Symbol.Number at value ∷ ss) = found_before (goes k room left) left (Symbol.Number at value) ss (λ t. refl)
    turn_local k room left (Symbol.Quoted at text ∷ ss) = found_before (goes k room left) left (Symbol.Quoted at text) ss (λ t. refl)

-- ---- expressions
mutual
  pub climb_local : (n k room : ℕ) → IsLocal (climb n k room)
  climb_local zero k room ss = unread_locally (climb zero k room) ss
  climb_local (suc n) k room ss =
      after_local (operand (climb n) (further n) room) (λ x rest. more n k room x rest) (operand_local (climb n) (climb_local n) (further n) (further_local n) room)
      (more_local n k room) ss

  more_local : (n k room : ℕ) (left : Formula) → IsLocal (more n k room left)
  more_local zero k room left ss = unread_locally (more zero k room left) ss
  more_local (suc n) k room left ss =
      turn_local (climb n) (climb_local n) (further n) (further_local n) (λ x rest. more n k room x rest) (more_local n k room) k room left ss

  further_local : (n room : ℕ) → IsLocal (further n room)
  further_local zero room ss = unread_locally (further zero room) ss
  further_local (suc n) room ss = others_from_local (climb n) (climb_local n) (further n) (further_local n) room ss

-- where the reading is stuck before a symbol, it is stuck there whatever stands behind that symbol
pub stuck_whatever : (n k room : ℕ) (ss : List Symbol) (c : Symbol) (r : List Symbol) → climb n k room ss ≡ Stuck (c ∷ r)
    → (front : List Symbol) × (ss ≡ front ++ (c ∷ r)) × ((s : List Symbol) → climb n k room (front ++ (c ∷ s)) ≡ Stuck (c ∷ s))
stuck_whatever n k room ss c r e =
    let l = climb_local n k room ss in
    (l.front, l.whole ∙ ap (λ a. l.front ++ rest_of a) e, λ s. l.same c r s (ap rest_of e) ∙ ap (λ a. with_rest a (c ∷ s)) e)
