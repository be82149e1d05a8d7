-- Bounded runs of a list of statements.
use Rattle.std.specs.Prelude.{ℕ, zero, suc, ◌+◌, nat_eq, ℤ, pos, Bool, false, List, [], ◌∷◌, Option, Some, None, replicate, slice_get, slice_set, if◌then◌else◌}
use Rattle.nk_outside.specs.Outcome.{Outcome}
use Rattle.nk_outside.specs.declared.stop.Stop.{Stop}
use Rattle.nk_outside.specs.declared.stop.Stop.TheVariants as stops
use Rattle.ir_core.specs.Operator.{holds}
use Rattle.ir_run.specs.Runs.{Turn, Goes, Ends, run}
use Rattle.ir_run.specs.Entry.{Entry, Set, Store, Out, Branch, JumpCell, Jump, Mark, Halt, Listing}
use Rattle.ir_run.specs.Value.{State, label_of, number, address, held, value}

-- whether it is the mark of this label
abbrev pub is_mark : Entry → ℕ → Bool
is_mark (Set k t) l = false
is_mark (Store t u) l = false
is_mark (Out t) l = false
is_mark (Branch r t u m) l = false
is_mark (JumpCell k) l = false
is_mark (Jump m) l = false
is_mark (Mark m) l = nat_eq l m
is_mark (Halt code) l = false

-- the place of the first mark of a label in a list that begins at this place
abbrev pub place_from : ℕ → List Entry → ℕ → Option ℕ
place_from at [] l = None
place_from at (e ∷ es) l = if is_mark e l then Some at else place_from (at + 1) es l

abbrev pub place_of : List Entry → ℕ → Option ℕ
place_of entries l = place_from 0 entries l

-- at this place
abbrev pub at_place : ℕ → State → State
at_place p s = record s { place = p }

-- at the next place
abbrev pub on : State → State
on s = at_place (s.place + 1) s

-- with a value in a cell; one that doesn't exist takes nothing
abbrev pub put : ℕ → ℤ → State → State
put k z s = record s { cells = slice_set s.cells k z }

-- at a label's mark; where there is none, it stays
abbrev pub at_mark : Option ℕ → State → State
at_mark (Some p) s = at_place p s
at_mark None s = s

-- the place of a label's mark, where there are both
abbrev pub place_by : List Entry → Option ℕ → Option ℕ
place_by entries None = None
place_by entries (Some l) = place_of entries l

abbrev pub halted : ℕ → Stop
halted zero = stops.Ended
halted (suc k) = stops.Trap (suc k)

abbrev pub wants : Turn State
wants = Ends stops.Wants

-- what a statement does; where the list has ended, it stays
abbrev pub act : List Entry → ℕ → Option Entry → State → Turn State
act entries n None s = Goes [] s
act entries n (Some (Set k t)) s = value wants n t (λ z s. Goes [] (on (put k z s))) s
act entries n (Some (Store t u)) s = value wants n t (λ a. value wants n u (λ z s. Goes [] (on (put (address n a) z s)))) s
act entries n (Some (Out t)) s = value wants n t (λ z s. Goes (number n z ∷ []) (on s)) s
act entries n (Some (Branch r t u l)) s =
    value wants n t (λ x. value wants n u (λ y s. Goes [] (if holds r (number n x) (number n y) then at_mark (place_of entries l) s else on s))) s
act entries n (Some (JumpCell k)) s = Goes [] (at_mark (place_by entries (label_of (held s k))) s)
act entries n (Some (Jump l)) s = Goes [] (at_mark (place_of entries l) s)
act entries n (Some (Mark l)) s = Goes [] (on s)
act entries n (Some (Halt code)) s = Ends (halted code)

-- one step: the statement at the place
abbrev pub step : List Entry → ℕ → State → Turn State
step entries n s = act entries n (slice_get entries s.place) s

-- cells, and over them what some of them hold at the start
abbrev pub filled : List ℤ → List (ℕ × ℤ) → List ℤ
filled cells [] = cells
filled cells ((k, z) ∷ start) = filled (slice_set cells k z) start

-- the state at the start, on this input
abbrev pub beginning : Listing → List ℤ → State
beginning i input = record { place = 0; cells = filled (replicate i.cells (pos 0)) i.start; input = input }

-- what statements over numbers of n bits come to on this input, in at most so many steps
abbrev pub outcome : Listing → ℕ → List ℤ → ℕ → Outcome
outcome i n input steps = run (step i.entries n) steps (beginning i input)
