-- Certs: how an operation is done from cells to a cell.
use Rattle.std.specs.Prelude.{ℕ, ◌+◌, ◌==◌, ◌≤◌, ◌≡◌, nat_le, pos, Bool, true, false, not, ◌&&◌, ◌||◌, IsTrue, List, [], ◌∷◌, ◌++◌, length, drop, Option, Some, None, unwrap_or, option_map, option_and_then, slice_get, if◌then◌else◌, Contains}
use Rattle.std.specs.List.{list_all}
use Rattle.ir_core.specs.declared.relation.Rel.{Rel}
use Rattle.ir_core.specs.declared.relation.Rel.TheVariants as rel
use Rattle.ir_run.specs.Size.{Operation, Copying, Loading, Storing, Taking, Putting, By, First, Moving, Comparing, Jumping, JumpingByCell, Halting, arith_number, prefix_number, shift_number, rel_number}
use Rattle.isg_places.specs.declared.place.Place.{Place}
use Rattle.pat_core.specs.Spot.{Spot}
use Rattle.pat_core.specs.Tile.{Tile, Operand, Number, In, Load, Unary, Shifted, Binary, Form, Write, Store, Out, Branch, JumpCell, Jump, Halt}
use Rattle.pat_core.specs.Shape.{Shape}
use Rattle.pat_core.specs.Patterns.{Pattern, written}
use Rattle.pat_core.specs.Isa.{Isa, pattern_at, same_place, home}
use Rattle.pat_core.specs.Instance.{Ask, Never, names, counts_as, shifts_by, halts_with, instance}
use Rattle.pat_core.specs.Operation.{Op, Of, ZeroTest, NegativeTest}
use Rattle.pat_core.specs.Route.{Route, is_route, end_of}

-- ---- patterns of an operation

-- the operands' numbers, left before right, and what is asked of the fields
pub record Use : Type 0 where
  pub operands : List ℕ
  pub asks : List Ask

-- a use with these operands, of which this is asked
abbrev pub use_of : List ℕ → List Ask → Option Use
use_of operands asks = Some (record { operands = operands; asks = asks })

-- the tree of a write is the operation over bare operands; a shift is by 1
abbrev pub write_use : Operation → Tile ℕ → Option Use
write_use Copying (Operand i) = use_of (i ∷ []) []
write_use Loading (Load (Operand i)) = use_of (i ∷ []) []
write_use Taking In = use_of [] []
write_use (By o) (Binary op (Operand i) (Operand j)) = if arith_number o == arith_number op then use_of (i ∷ j ∷ []) [] else None
write_use (First o) (Unary op (Operand i)) = if prefix_number o == prefix_number op then use_of (i ∷ []) [] else None
write_use (Moving o) (Shifted op (Operand i) k) = if shift_number o == shift_number op then use_of (i ∷ []) (shifts_by k 1) else None
write_use _ _ = None

-- the test against 0: the operand on the left, a number on the right
abbrev pub zero_use : ℕ → Shape → Rel → Rel → Tile ℕ → Tile ℕ → Option Use
zero_use n s wanted r (Operand i) (Number c) = if rel_number wanted == rel_number r then use_of (i ∷ []) (counts_as n s c (pos 0)) else None
zero_use n s wanted r _ _ = None

-- a branch by the relation wanted; of a test against 0, over one operand
abbrev pub branch_use : ℕ → Shape → Op → Rel → Tile ℕ → Tile ℕ → Option Use
branch_use n s (Of (Comparing wanted)) r (Operand i) (Operand j) = if rel_number wanted == rel_number r then use_of (i ∷ j ∷ []) [] else None
branch_use n s ZeroTest r t u = zero_use n s rel.Eq r t u
branch_use n s NegativeTest r t u = zero_use n s rel.Lt r t u
branch_use n s _ r t u = None

-- the form is the operation and nothing else; a halt's code is 0
abbrev pub form_use : ℕ → Shape → Op → Form ℕ → Option Use
form_use n s op (Branch r t u j) = branch_use n s op r t u
form_use n s (Of Storing) (Store (Operand i) (Operand j)) = use_of (i ∷ j ∷ []) []
form_use n s (Of Putting) (Out (Operand i)) = use_of (i ∷ []) []
form_use n s (Of JumpingByCell) (JumpCell (Operand i)) = use_of (i ∷ []) []
form_use n s (Of Jumping) (Jump j) = use_of [] []
form_use n s (Of Halting) (Halt c) = use_of [] (halts_with s c 0)
form_use n s (Of op) (Write d t) = write_use op t
form_use n s _ _ = None

-- ---- Certs

-- the routes of the operands, the first one's and the second one's; the pattern; the route of the result
pub record Cert : Type 0 where
  pub first : Route
  pub second : Route
  pub pattern : ℕ
  pub last : Route

-- how many words a Cert has
abbrev pub words : Cert → ℕ
words c = length c.first + length c.second + 1 + length c.last

-- a Cert has at most so many words
abbrev pub most_words : ℕ
most_words = 12

-- the places to which the operands are brought
abbrev pub ends : Isa → Cert → List Place
ends isa c = end_of (home isa) c.first ∷ end_of (home isa) c.second ∷ []

-- operands stand in these places
abbrev pub operands_in : (dm : ℕ) → List Spot → List ℕ → List Place → List Ask
operands_in dm spots (i ∷ is) (p ∷ places) =
    unwrap_or (option_map (λ s. names dm s p) (slice_get spots i)) (Never ∷ []) ++ operands_in dm spots is places
operands_in dm spots _ _ = []

-- a result goes to a place, and only a result
abbrev pub result_in : (dm : ℕ) → Option Spot → Option Place → List Ask
result_in dm (Some s) (Some p) = names dm s p
result_in dm None None = []
result_in dm _ _ = Never ∷ []

-- operands that are registers have different cells
abbrev pub are_apart : Isa → List Place → Bool
are_apart isa (p ∷ q ∷ []) = not (same_place p q) || same_place p (home isa)
are_apart isa _ = true

-- without a step
abbrev pub is_empty : Route → Bool
is_empty route = length route == 0

-- a result is brought to a cell of the data memory; without one there is no route
abbrev pub comes_home : Isa → (bits : ℕ) → Option Place → Route → Bool
comes_home isa bits None route = is_empty route
comes_home isa bits (Some to) route = is_route isa bits None to route (home isa)

-- what is asked of the fields: the operands stand where they were brought, the result goes to the place `to`, and what the use asks
abbrev pub asks_by : Isa → Cert → Option Place → Pattern → Use → List Ask
asks_by isa c to p u =
    operands_in isa.machine.dm p.operands u.operands (ends isa c) ++ result_in isa.machine.dm (written p.form) to ++ u.asks

-- a Cert by this pattern and use, whose result is first put into the place `to`
abbrev pub is_cert_by : Isa → (bits : ℕ) → Cert → Option Place → Pattern × Shape → Use → Bool
is_cert_by isa bits c to (p, s) u =
    nat_le bits p.bits && nat_le (words c) most_words && are_apart isa (ends isa c)
    && list_all is_empty (drop (length u.operands) (c.first ∷ c.second ∷ []))
    && is_route isa bits None (home isa) c.first (end_of (home isa) c.first)
    && is_route isa bits (Some (end_of (home isa) c.first)) (home isa) c.second (end_of (home isa) c.second)
    && comes_home isa bits to c.last
    && unwrap_or (option_map (λ i. true) (instance s (asks_by isa c to p u))) false

-- a Cert of this operation, whose result is first put into the place `to`
abbrev pub is_cert_to : Isa → (bits : ℕ) → Op → Cert → Option Place → Bool
is_cert_to isa bits op c to =
    unwrap_or (option_and_then (λ (p, s). option_map (is_cert_by isa bits c to (p, s)) (form_use isa.machine.width s op p.form)) (pattern_at isa c.pattern)) false

-- the codes for which a halt needs a pattern
abbrev pub halt_codes : List ℕ
halt_codes = 0 ∷ 1 ∷ []

-- the pattern halts with this code
abbrev pub gives_code : ℕ → Shape → Form ℕ → Bool
gives_code k s (Halt c) = unwrap_or (option_map (λ i. true) (instance s (halts_with s c k))) false
gives_code k s _ = false

-- the pattern of this number halts with this code
abbrev pub can_halt : Isa → ℕ → ℕ → Bool
can_halt isa k number = unwrap_or (option_map (λ (p, s). gives_code k s p.form) (pattern_at isa number)) false

-- the least pattern that can give a code: the one that halts with it
pub record IsHaltPattern (isa : Isa) (k number : ℕ) : Type 0 where
  pub can : IsTrue (can_halt isa k number)
  pub least : (other : ℕ) → IsTrue (can_halt isa k other) → number ≤ other

-- for `halt` each of the codes has a pattern
abbrev pub HasCodes : Isa → Op → Type 0
HasCodes isa (Of Halting) = (k : ℕ) → Contains halt_codes k → (number : ℕ) × IsTrue (can_halt isa k number)
HasCodes isa _ = Unit {0}

-- a Cert of the operation, with addresses of at least so many bits
pub record IsCert (isa : Isa) (bits : ℕ) (op : Op) (c : Cert) : Type 0 where
  pub to : Option Place
  pub is : IsTrue (is_cert_to isa bits op c to)
  pub codes : HasCodes isa op

-- the one that is taken: a shortest, and of these one whose pattern has the least number
pub record IsTaken (isa : Isa) (bits : ℕ) (op : Op) (c : Cert) : Type 0 where
  pub is : IsCert isa bits op c
  pub shortest : (other : Cert) → IsCert isa bits op other → words c ≤ words other
  pub least : (other : Cert) → IsCert isa bits op other → words other ≡ words c → c.pattern ≤ other.pattern
