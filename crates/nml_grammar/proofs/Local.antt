-- A reading goes by the symbols up to the first one that it leaves: whatever stands behind that one, it comes to the same.
use Rattle.std.proofs.Common.{◌≡◌, ℕ, zero, suc, ◌-◌, List, [], ◌∷◌, ◌++◌, Option, Some, None, refl, ap, ◌∙◌, Bool, true, false}
use Rattle.std.specs.Prelude.{if◌then◌else◌, nat_le, codes}
use Rattle.nk_base.specs.Text.{text_eq}
use Rattle.nml_tree.specs.declared.names.Name.{Name}
use Rattle.nml_tree.specs.declared.operator.Bin.{Bin}
use Rattle.readings.specs.Symbol.{Symbol}
use Rattle.nml_tree.specs.Formula.{Formula, Prefix, Fit, Numeral, Truth, Named, Indexed, Paren, Fitted, Bits, Choose, Unary, Binary}
use Rattle.nml_tree.specs.Level.{binary_level, unary_level}
use Rattle.nml_tree.specs.Depth.{depth}
use Rattle.readings.specs.Reading.{Read, Found, Stuck, read_on, looked_up, behind, mark}
use Rattle.nml_grammar.specs.Reading.{size, operators, of_level, operator, Beginning, Value, Opening, Fitting, Slice, Choice, Operation, beginnings, Reader, index, paren, fitted, slice, choice, operation, begun, operand, turn, climb, more}
use Rattle.readings.specs.Lawful.{rest_of, with_rest, Locally, IsLocal}
use Rattle.readings.proofs.Local.{unread_locally, stuck_empty, found_empty, stuck_at, found_before, found_local, taken, tested, after_local, mark_local}
use Rattle.nml_tree.specs.declared.tree.Size.TheVariants as size_case

pub size_local : IsLocal size
size_local [] = stuck_empty size
size_local (Symbol.Fixed at text ∷ ss) = stuck_at size (Symbol.Fixed at text) ss (λ t. refl)
size_local (Symbol.Named at text ∷ ss) = taken size (λ t. Found (size_case.Name (record { at = at; text = text })) t) (Symbol.Named at text) ss (λ t. refl) (found_local (size_case.Name (record { at = at; text = text })) ss)
size_local (Symbol.Number at value ∷ ss) = taken size (λ t. Found (size_case.Number (record { at = at; value = value })) t) (Symbol.Number at value) ss (λ t. refl) (found_local (size_case.Number (record { at = at; value = value })) ss)
size_local (Symbol.Quoted at text ∷ ss) = stuck_at size (Symbol.Quoted at text) ss (λ t. refl)

-- ---- operands
module _ (inner : Reader) (inner_local : (k room : ℕ) → IsLocal (inner k room)) where
  -- the last mark of a node
  closed_local : (text : List ℕ) (make : ℕ → Formula) → IsLocal (λ t. read_on (mark text t) (λ q s. Found (make q) s))
  closed_local text make = after_local (mark text) (λ q s. Found (make q) s) (mark_local text) (λ q. found_local (make q))

  paren_local : (room at : ℕ) → IsLocal (paren inner room at)
  paren_local room at = after_local (inner 0 (room - 1)) (λ x r. read_on (mark (codes ")") r) (λ q s. Found (Paren at x q) s)) (inner_local 0 (room - 1)) (λ x. closed_local (codes ")") (Paren at x))

  fitted_local : (room : ℕ) (fit : Fit) (at : ℕ) → IsLocal (fitted inner room fit at)
  fitted_local room fit at =
      after_local (mark (codes "(")) _ (mark_local (codes "("))
      (λ p. after_local size _ size_local
      (λ n. after_local (mark (codes ",")) _ (mark_local (codes ","))
      (λ c. after_local (inner 0 (room - 1)) _ (inner_local 0 (room - 1))
      (λ x. closed_local (codes ")") (λ q. Fitted fit at p n c x q)))))

  slice_local : (room at : ℕ) → IsLocal (slice inner room at)
  slice_local room at =
      after_local (mark (codes "(")) _ (mark_local (codes "("))
      (λ p. after_local (inner 0 (room - 1)) _ (inner_local 0 (room - 1))
      (λ x. after_local (mark (codes ",")) _ (mark_local (codes ","))
      (λ c. after_local size _ size_local
      (λ high. after_local (mark (codes ",")) _ (mark_local (codes ","))
      (λ d. after_local size _ size_local
      (λ low. closed_local (codes ")") (λ q. Bits at p x c high d low q)))))))

  choice_local : (room at : ℕ) → IsLocal (choice inner room at)
  choice_local room at =
      after_local (inner 0 (room - 1)) _ (inner_local 0 (room - 1))
      (λ c. after_local (mark (codes "then")) _ (mark_local (codes "then"))
      (λ t. after_local (inner 0 (room - 1)) _ (inner_local 0 (room - 1))
      (λ x. after_local (mark (codes "else")) _ (mark_local (codes "else"))
      (λ f. after_local (inner 0 (room - 1)) _ (inner_local 0 (room - 1))
      (λ y. closed_local (codes "endif") (λ end. Choose at c t x f y end))))))

  operation_local : (room : ℕ) (op : Prefix) (at : ℕ) → IsLocal (operation inner room op at)
  operation_local room op at = after_local (inner unary_level (room - 1)) (λ x s. Found (Unary op at x) s) (inner_local unary_level (room - 1)) (λ x. found_local (Unary op at x))

  -- a name, and the expression in brackets behind it if there is one
  bracket_local : (room : ℕ) (n : Name) (p : ℕ) → IsLocal (λ t. read_on (inner 0 (room - 1) t) (λ i r. read_on (mark (codes "]") r) (λ q s. Found (Indexed n p i q) s)))
  bracket_local room n p = after_local (inner 0 (room - 1)) (λ i r. read_on (mark (codes "]") r) (λ q s. Found (Indexed n p i q) s)) (inner_local 0 (room - 1)) (λ i. closed_local (codes "]") (Indexed n p i))

  abbrev named : ℕ → Name → List Symbol → Read Formula
  named room n t = index inner room n t (behind (codes "[") t)

  named_local : (room : ℕ) (n : Name) → IsLocal (named room n)
  named_local room n [] = found_empty (named room n) (Named n)
  named_local room n (Symbol.Fixed at text ∷ ss) = by (text_eq text (codes "[")) refl
    where
      by : (b : Bool) → text_eq text (codes "[") ≡ b → Locally (named room n) (Symbol.Fixed at text ∷ ss) (index inner room n (Symbol.Fixed at text ∷ ss) (if◌then◌else◌ {A = Option (ℕ × List Symbol)} b (Some (at, ss)) None))
      by true e =
          tested (nat_le room 1) (named room n) (λ t. read_on (inner 0 (room - 1) t) (λ i r. read_on (mark (codes "]") r) (λ q s. Found (Indexed n at i q) s))) (Symbol.Fixed at text) ss
          (λ t. ap (λ b. index inner room n (Symbol.Fixed at text ∷ t) (if◌then◌else◌ {A = Option (ℕ × List Symbol)} b (Some (at, t)) None)) e) (bracket_local room n at)
      by false e = found_before (named room n) (Named n) (Symbol.Fixed at text) ss (λ t. ap (λ b. index inner room n (Symbol.Fixed at text ∷ t) (if◌then◌else◌ {A = Option (ℕ × List Symbol)} b (Some (at, t)) None)) e)
  named_local room n (Symbol.Named at text ∷ ss) = found_before (named room n) (Named n) (Symbol.Named at text) ss (λ t. refl)
  named_local room n (Symbol.Number at value ∷ ss) = found_before (named room n) (Named n) (Symbol.Number at value) ss (λ t. refl)
  named_local room n (Symbol.Quoted at text ∷ ss) = found_before (named room n) (Named n) (Symbol.Quoted at text) ss (λ t. refl)

  -- what begins with a keyword or a mark
  begun_local : (room at : ℕ) (text : List ℕ) (ss : List Symbol) (o : Option Beginning) → looked_up beginnings text ≡ o → Locally (operand inner room) (Symbol.Fixed at text ∷ ss) (begun inner room (Symbol.Fixed at text ∷ ss) at ss o)
  begun_local room at text ss None e = stuck_at (operand inner room) (Symbol.Fixed at text) ss (λ t. ap (begun inner room (Symbol.Fixed at text ∷ t) at t) e)
  begun_local room at text ss (Some (Value b)) e = taken (operand inner room) (λ t. Found (Truth at b) t) (Symbol.Fixed at text) ss (λ t. ap (begun inner room (Symbol.Fixed at text ∷ t) at t) e) (found_local (Truth at b) ss)
  begun_local room at text ss (Some Opening) e = tested (nat_le room 1) (operand inner room) (paren inner room at) (Symbol.Fixed at text) ss (λ t. ap (begun inner room (Symbol.Fixed at text ∷ t) at t) e) (paren_local room at)
  begun_local room at text ss (Some (Fitting fit)) e = tested (nat_le room 1) (operand inner room) (fitted inner room fit at) (Symbol.Fixed at text) ss (λ t. ap (begun inner room (Symbol.Fixed at text ∷ t) at t) e) (fitted_local room fit at)
  begun_local room at text ss (Some Slice) e = tested (nat_le room 1) (operand inner room) (slice inner room at) (Symbol.Fixed at text) ss (λ t. ap (begun inner room (Symbol.Fixed at text ∷ t) at t) e) (slice_local room at)
  begun_local room at text ss (Some Choice) e = tested (nat_le room 1) (operand inner room) (choice inner room at) (Symbol.Fixed at text) ss (λ t. ap (begun inner room (Symbol.Fixed at text ∷ t) at t) e) (choice_local room at)
  begun_local room at text ss (Some (Operation op)) e = tested (nat_le room 1) (operand inner room) (operation inner room op at) (Symbol.Fixed at text) ss (λ t. ap (begun inner room (Symbol.Fixed at text ∷ t) at t) e) (operation_local room op at)

  operand_local : (room : ℕ) → IsLocal (operand inner room)
  operand_local room [] = stuck_empty (operand inner room)
  operand_local room (Symbol.Fixed at text ∷ ss) = begun_local room at text ss (looked_up beginnings text) refl
  operand_local room (Symbol.Named at text ∷ ss) =
      taken (operand inner room) (named room (record { at = at; text = text })) (Symbol.Named at text) ss (λ t. refl) (named_local room (record { at = at; text = text }) ss)
  operand_local room (Symbol.Number at value ∷ ss) =
      taken (operand inner room) (λ t. Found (Numeral (record { at = at; value = value })) t) (Symbol.Number at value) ss (λ t. refl) (found_local (Numeral (record { at = at; value = value })) ss)
  operand_local room (Symbol.Quoted at text ∷ ss) = stuck_at (operand inner room) (Symbol.Quoted at text) ss (λ t. refl)

  -- ---- a turn of the loop
  module _ (next : Formula → List Symbol → Read Formula) (next_local : (x : Formula) → IsLocal (next x)) where
    abbrev goes : ℕ → ℕ → Formula → List Symbol → Read Formula
    goes k room left t = turn inner next room left t (operator k t)

    right_local : (room : ℕ) (left : Formula) (op : Bin) (at : ℕ) → IsLocal (λ t. read_on (inner (suc (binary_level op)) (room - 1) t) (λ right s. next (Binary op left at right) s))
    right_local room left op at =
        after_local (inner (suc (binary_level op)) (room - 1)) (λ right s. next (Binary op left at right) s) (inner_local (suc (binary_level op)) (room - 1)) (λ right. next_local (Binary op left at right))

    operator_local : (k room : ℕ) (left : Formula) (at : ℕ) (text : List ℕ) (ss : List Symbol) (o : Option Bin) → looked_up operators text ≡ o
        → Locally (goes k room left) (Symbol.Fixed at text ∷ ss) (turn inner next room left (Symbol.Fixed at text ∷ ss) (of_level k at ss o))
    operator_local k room left at text ss None e = found_before (goes k room left) left (Symbol.Fixed at text) ss (λ t. ap (λ o. turn inner next room left (Symbol.Fixed at text ∷ t) (of_level k at t o)) e)
    operator_local k room left at text ss (Some op) e = by (nat_le k (binary_level op)) refl
      where
        by : (b : Bool) → nat_le k (binary_level op) ≡ b
            → Locally (goes k room left) (Symbol.Fixed at text ∷ ss) (turn inner next room left (Symbol.Fixed at text ∷ ss) (if◌then◌else◌ {A = Option (Bin × ℕ × List Symbol)} b (Some (op, at, ss)) None))
        by true f =
            tested (nat_le room (depth left)) (goes k room left) (λ t. read_on (inner (suc (binary_level op)) (room - 1) t) (λ right s. next (Binary op left at right) s)) (Symbol.Fixed at text) ss
            (λ t. ap (λ o. turn inner next room left (Symbol.Fixed at text ∷ t) (of_level k at t o)) e
            ∙ ap (λ b. turn inner next room left (Symbol.Fixed at text ∷ t) (if◌then◌else◌ {A = Option (Bin × ℕ × List Symbol)} b (Some (op, at, t)) None)) f)
            (right_local room left op at)
        by false f =
            found_before (goes k room left) left (Symbol.Fixed at text) ss
            (λ t. ap (λ o. turn inner next room left (Symbol.Fixed at text ∷ t) (of_level k at t o)) e
            ∙ ap (λ b. turn inner next room left (Symbol.Fixed at text ∷ t) (if◌then◌else◌ {A = Option (Bin × ℕ × List Symbol)} b (Some (op, at, t)) None)) f)

    turn_local : (k room : ℕ) (left : Formula) → IsLocal (goes k room left)
    turn_local k room left [] = found_empty (goes k room left) left
    turn_local k room left (Symbol.Fixed at text ∷ ss) = operator_local k room left at text ss (looked_up operators text) refl
    turn_local k room left (Symbol.Named at text ∷ ss) = found_before (goes k room left) left (Symbol.Named at text) ss (λ t. refl)
    turn_local k room left (Symbol.Number at value ∷ ss) = found_before (goes k room left) left (Symbol.Number at value) ss (λ t. refl)
    turn_local k room left (Symbol.Quoted at text ∷ ss) = found_before (goes k room left) left (Symbol.Quoted at text) ss (λ t. refl)

-- ---- expressions
mutual
  pub climb_local : (n k room : ℕ) → IsLocal (climb n k room)
  climb_local zero k room ss = unread_locally (climb zero k room) ss
  climb_local (suc n) k room ss = after_local (operand (climb n) room) (λ x rest. more n k room x rest) (operand_local (climb n) (climb_local n) room) (more_local n k room) ss

  more_local : (n k room : ℕ) (left : Formula) → IsLocal (more n k room left)
  more_local zero k room left ss = unread_locally (more zero k room left) ss
  more_local (suc n) k room left ss = turn_local (climb n) (climb_local n) (λ x rest. more n k room x rest) (more_local n k room) k room left ss

-- where the reading is stuck before a symbol, it is stuck there whatever stands behind that symbol
pub stuck_whatever : (n k room : ℕ) (ss : List Symbol) (c : Symbol) (r : List Symbol) → climb n k room ss ≡ Stuck (c ∷ r)
    → (front : List Symbol) × (ss ≡ front ++ (c ∷ r)) × ((s : List Symbol) → climb n k room (front ++ (c ∷ s)) ≡ Stuck (c ∷ s))
stuck_whatever n k room ss c r e =
    let l = climb_local n k room ss in
    (l.front, l.whole ∙ ap (λ a. l.front ++ rest_of a) e, λ s. l.same c r s (ap rest_of e) ∙ ap (λ a. with_rest a (c ∷ s)) e)

-- and what is found before a symbol is found before it whatever stands behind
pub found_whatever : (n k room : ℕ) (ss : List Symbol) (x : Formula) (c : Symbol) (r : List Symbol) → climb n k room ss ≡ Found x (c ∷ r)
    → (front : List Symbol) × (ss ≡ front ++ (c ∷ r)) × ((s : List Symbol) → climb n k room (front ++ (c ∷ s)) ≡ Found x (c ∷ s))
found_whatever n k room ss x c r e =
    let l = climb_local n k room ss in
    (l.front, l.whole ∙ ap (λ a. l.front ++ rest_of a) e, λ s. l.same c r s (ap rest_of e) ∙ ap (λ a. with_rest a (c ∷ s)) e)
