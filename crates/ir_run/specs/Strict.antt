-- The machine that stops where statements break a promise: where they load or store outside the arrays, take a label as a number, go to a label
-- without a mark, or come to the end of the list.
use Rattle.std.specs.Prelude.{ℕ, ◌+◌, ◌^◌, nat_lt, nat_le, ℤ, pos, int_lt, Bool, true, false, ◌&&◌, List, [], ◌∷◌, Option, Some, None, slice_get, if◌then◌else◌}
use Rattle.std.specs.List.{list_any}
use Rattle.nk_outside.specs.Outcome.{Outcome}
use Rattle.nk_outside.specs.declared.stop.Stop.{Stop}
use Rattle.nk_outside.specs.declared.stop.Stop.TheVariants as stops
use Rattle.ir_core.specs.Operator.{wrap, prefixed, shifted, arithmetic, holds}
use Rattle.ir_run.specs.Runs.{Turn, Goes, Ends, run}
use Rattle.ir_run.specs.Node.{Node, Const, Base, Label, Cell, In, Load, Unary, Shifted, Binary}
use Rattle.ir_run.specs.Entry.{Entry, Set, Store, Out, Branch, JumpCell, Jump, Mark, Halt, Listing}
use Rattle.ir_run.specs.Value.{State, label_value, label_of, number, address, held, take_next}
use Rattle.ir_run.specs.Run.{place_of, place_by, at_place, on, put, halted, wants, beginning}

-- how it stops where a promise is broken: a halt's code is below 256
abbrev pub broken : Stop
broken = stops.Trap 256

-- first cells and lengths of arrays
abbrev pub Arrays : Type 0
Arrays = List (ℕ × ℕ)

-- a cell of one of these arrays
abbrev pub is_inside : Arrays → ℕ → Bool
is_inside arrays k = list_any (λ (first, length). nat_le first k && nat_lt k (first + length)) arrays

-- a value that is no label
abbrev pub is_numeral : ℤ → Bool
is_numeral z = int_lt z (pos (2 ^ 32))

-- where this holds; else a promise is broken
abbrev pub only : Bool → Turn State → Turn State
only true t = t
only false t = Ends broken

-- the value of a tree, from left to right, with which is gone on
abbrev pub value : Arrays → ℕ → Node → (ℤ → State → Turn State) → State → Turn State
value arrays n (Const z) next s = next (wrap n z) s
value arrays n (Base c) next s = next (wrap n (pos c)) s
value arrays n (Label l) next s = next (label_value l) s
value arrays n (Cell k) next s = next (held s k) s
value arrays n In next s = take_next wants s.input next s
value arrays n (Load t) next s =
    value arrays n t (λ a s. only (is_numeral a) (only (is_inside arrays (address n a)) (next (held s (address n a)) s))) s
value arrays n (Unary op t) next s = value arrays n t (λ z s. only (is_numeral z) (next (prefixed n op (number n z)) s)) s
value arrays n (Shifted op t k) next s = value arrays n t (λ z s. only (is_numeral z) (next (shifted n op (number n z) k) s)) s
value arrays n (Binary op t u) next s =
    value arrays n t (λ x s. only (is_numeral x) (value arrays n u (λ y s. only (is_numeral y) (next (arithmetic n op (number n x) (number n y)) s)) s)) s

-- at a label's mark, where there is one
abbrev pub at_mark : Option ℕ → State → Turn State
at_mark (Some p) s = Goes [] (at_place p s)
at_mark None s = Ends broken

-- what a statement does
abbrev pub act : Arrays → List Entry → ℕ → Option Entry → State → Turn State
act arrays entries n None s = Ends broken
act arrays entries n (Some (Set k t)) s = value arrays n t (λ z s. Goes [] (on (put k z s))) s
act arrays entries n (Some (Store t u)) s =
    value arrays n t (λ a s. only (is_numeral a) (value arrays n u (λ z s. only (is_inside arrays (address n a)) (Goes [] (on (put (address n a) z s)))) s)) s
act arrays entries n (Some (Out t)) s = value arrays n t (λ z s. only (is_numeral z) (Goes (number n z ∷ []) (on s))) s
act arrays entries n (Some (Branch r t u l)) s =
    value arrays n t (λ x s. only (is_numeral x) (value arrays n u (λ y s. only (is_numeral y)
    (if holds r (number n x) (number n y) then at_mark (place_of entries l) s else Goes [] (on s))) s)) s
act arrays entries n (Some (JumpCell k)) s = at_mark (place_by entries (label_of (held s k))) s
act arrays entries n (Some (Jump l)) s = at_mark (place_of entries l) s
act arrays entries n (Some (Mark l)) s = Goes [] (on s)
act arrays entries n (Some (Halt code)) s = Ends (halted code)

-- one step: the statement at the place
abbrev pub step : Arrays → List Entry → ℕ → State → Turn State
step arrays entries n s = act arrays entries n (slice_get entries s.place) s

-- what statements over numbers of n bits come to on this input, in at most so many steps
abbrev pub outcome : Listing → ℕ → List ℤ → ℕ → Outcome
outcome i n input steps = run (step i.arrays i.entries n) steps (beginning i input)
