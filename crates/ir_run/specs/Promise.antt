-- What statements promise to whoever makes words of them.
use Rattle.std.specs.Prelude.{◌≡◌, ◌≢◌, ℕ, ◌+◌, ◌==◌, nat_lt, nat_le, ℤ, Bool, true, false, not, ◌&&◌, ◌||◌, List, [], ◌∷◌, ◌++◌, map, All}
use Rattle.std.specs.List.{list_all, list_any}
use Rattle.ir_core.specs.Inputs.{IsNumber}
use Rattle.ir_run.specs.Node.{Node, Const, Base, Label, Cell, In, Load, Unary, Shifted, Binary}
use Rattle.ir_run.specs.Entry.{Entry, Set, Store, Out, Branch, JumpCell, Jump, Mark, Halt, Homes, Listing}
use Rattle.ir_run.specs.Size.{trees_of}
use Rattle.ir_run.specs.Strict as strict
use Rattle.ir_run.specs.Strict.{broken, is_inside}

-- ---- of each statement

-- shifts are by 1 to n-1
abbrev pub shifts_fit : ℕ → Node → Bool
shifts_fit n (Const z) = true
shifts_fit n (Base c) = true
shifts_fit n (Label l) = true
shifts_fit n (Cell k) = true
shifts_fit n In = true
shifts_fit n (Load t) = shifts_fit n t
shifts_fit n (Unary op t) = shifts_fit n t
shifts_fit n (Shifted op t k) = nat_lt 0 k && nat_lt k n && shifts_fit n t
shifts_fit n (Binary op t u) = shifts_fit n t && shifts_fit n u

-- neither the input nor a label stands in a tree
abbrev pub is_plain : Node → Bool
is_plain (Const z) = true
is_plain (Base c) = true
is_plain (Label l) = false
is_plain (Cell k) = true
is_plain In = false
is_plain (Load t) = is_plain t
is_plain (Unary op t) = is_plain t
is_plain (Shifted op t k) = is_plain t
is_plain (Binary op t u) = is_plain t && is_plain u

-- the input and a label stand only as the whole tree of a Set
abbrev pub is_settable : Node → Bool
is_settable (Label l) = true
is_settable In = true
is_settable t = is_plain t

abbrev pub stands_alone : Entry → Bool
stands_alone (Set k t) = is_settable t
stands_alone (Store t u) = is_plain t && is_plain u
stands_alone (Out t) = is_plain t
stands_alone (Branch r t u l) = is_plain t && is_plain u
stands_alone (JumpCell k) = true
stands_alone (Jump l) = true
stands_alone (Mark l) = true
stands_alone (Halt code) = true

-- a halt has the code 0 or that of a trap
abbrev pub halts_fit : (traps : ℕ) → Entry → Bool
halts_fit traps (Halt code) = nat_le code traps
halts_fit traps (Set k t) = true
halts_fit traps (Store t u) = true
halts_fit traps (Out t) = true
halts_fit traps (Branch r t u l) = true
halts_fit traps (JumpCell k) = true
halts_fit traps (Jump l) = true
halts_fit traps (Mark l) = true

-- ---- of cells

abbrev pub home_cells : Homes → List ℕ
home_cells h = map (λ (k, z). k) h.consts ++ map (λ (k, c). k) h.bases ++ map (λ (k, l). k) h.labels

-- a cell that is no home and no temporary
abbrev pub is_free : Homes → ℕ → Bool
is_free h k = nat_lt k h.temps && not (list_any (λ home. home == k) (home_cells h))

abbrev pub set_fits : Homes → Entry → Bool
set_fits h (Set k t) = is_free h k
set_fits h (Store t u) = true
set_fits h (Out t) = true
set_fits h (Branch r t u l) = true
set_fits h (JumpCell k) = true
set_fits h (Jump l) = true
set_fits h (Mark l) = true
set_fits h (Halt code) = true

-- no array has a home or a temporary
abbrev pub arrays_fit : Listing → Bool
arrays_fit i =
    list_all (λ (first, length). nat_le (first + length) i.homes.temps) i.arrays && list_all (λ k. not (is_inside i.arrays k)) (home_cells i.homes)

-- each mark of the label comes directly behind a jump, other marks aside
abbrev pub is_behind_jump : (jumped : Bool) → List Entry → ℕ → Bool
is_behind_jump jumped [] l = true
is_behind_jump jumped (Mark m ∷ es) l = (not (m == l) || jumped) && is_behind_jump jumped es l
is_behind_jump jumped (Jump m ∷ es) l = is_behind_jump true es l
is_behind_jump jumped (Set k t ∷ es) l = is_behind_jump false es l
is_behind_jump jumped (Store t u ∷ es) l = is_behind_jump false es l
is_behind_jump jumped (Out t ∷ es) l = is_behind_jump false es l
is_behind_jump jumped (Branch r t u m ∷ es) l = is_behind_jump false es l
is_behind_jump jumped (JumpCell k ∷ es) l = is_behind_jump false es l
is_behind_jump jumped (Halt code ∷ es) l = is_behind_jump false es l

-- Shifts are by 1 to n-1. The input and a label stand only as the whole tree of a Set. A halt has the code 0 or that of a trap. No Set and no array
-- touches a home or a temporary. The mark of each label that has a home comes directly behind a jump, other marks aside.
abbrev pub is_promised : (traps : ℕ) → Listing → ℕ → Bool
is_promised traps i n =
    list_all (λ e. list_all (shifts_fit n) (trees_of e)) i.entries && list_all stands_alone i.entries && list_all (halts_fit traps) i.entries
    && list_all (set_fits i.homes) i.entries && arrays_fit i && list_all (λ (k, l). is_behind_jump false i.entries l) i.homes.labels

-- ---- of runs

-- On every input of numbers of n bits and for every bound no promise is broken: what is loaded and stored lies in the arrays, a label is only put in
-- a cell or gone to, what is gone to has a mark, and the end of the list isn't reached.
abbrev pub RunsSafely : Listing → ℕ → Type 0
RunsSafely i n = (input : List ℤ) → All (IsNumber n) input → (steps : ℕ) → (strict.outcome i n input steps).stop ≢ broken

-- what is promised, where there are traps of the codes from 1 to this
pub record Promise (traps : ℕ) (i : Listing) (n : ℕ) : Type 0 where
  pub statements : is_promised traps i n ≡ true
  pub runs : RunsSafely i n
