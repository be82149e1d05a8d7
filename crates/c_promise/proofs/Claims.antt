-- What each statement promises by itself, from what is known of statements that fit.
use Rattle.std.proofs.Common.{◌≡◌, refl, ℕ, ◌<◌, List, [], ◌∷◌, Bool, true, ◌&&◌}
use Rattle.std.specs.Prelude.{nat_lt}
use Rattle.std.specs.List.{list_all}
use Rattle.std.proofs.lemmas.Bool.{and_from, and_parts, ltb-true, le-leb}
use Rattle.std.proofs.lemmas.List.Elements.{All-nil, All-cons}
use Rattle.ir_run.specs.Node.{Node, Const, Base, Label, Cell, In, Load, Unary, Shifted, Binary}
use Rattle.ir_run.specs.Entry.{Entry, Set, Store, Out, Branch, JumpCell, Jump, Mark, Halt, Homes}
use Rattle.ir_run.specs.Size.{trees_of}
use Rattle.ir_run.specs.Promise.{shifts_fit, is_plain, stands_alone, halts_fit, is_free, set_fits}
use Rattle.ir_run.specs.Shifts.{ShiftsBelow, EntryShifts, AllShift}
use Rattle.c_promise.proofs.Fit.{IsFit, AllFit}

-- a test that each statement that fits passes
pub all_pass : (n limit : ℕ) (test : Entry → Bool) → ((e : Entry) (es : List Entry) → IsFit n limit e es → test e ≡ true) → (es : List Entry) → AllFit n limit es → list_all test es ≡ true
all_pass n limit test h [] fit = refl
all_pass n limit test h (e ∷ es) fit = and_from (test e) (list_all test es) (h e es fit.0) (all_pass n limit test h es fit.1)

one_tree : (n : ℕ) (t : Node) → shifts_fit n t ≡ true → list_all (shifts_fit n) (t ∷ []) ≡ true
one_tree n t h = and_from (shifts_fit n t) true h refl

two_trees : (n : ℕ) (t u : Node) → shifts_fit n t ≡ true → shifts_fit n u ≡ true → list_all (shifts_fit n) (t ∷ u ∷ []) ≡ true
two_trees n t u h i = and_from (shifts_fit n t) (list_all (shifts_fit n) (u ∷ [])) h (one_tree n u i)

-- shifts are by 1 to n-1
pub shifts_pass : (n limit : ℕ) (e : Entry) (es : List Entry) → IsFit n limit e es → list_all (shifts_fit n) (trees_of e) ≡ true
shifts_pass n limit (Set k t) es h = one_tree n t h.shifts
shifts_pass n limit (Store t u) es h = two_trees n t u h.0.0 h.1.0
shifts_pass n limit (Out t) es h = one_tree n t h.0
shifts_pass n limit (Branch r t u l) es h = two_trees n t u h.0.0 h.1.0
shifts_pass n limit (JumpCell k) es h = refl
shifts_pass n limit (Jump l) es h = refl
shifts_pass n limit (Mark l) es h = refl
shifts_pass n limit (Halt code) es h = refl

-- the input and a label stand only as the whole tree of a Set
pub alone_pass : (n limit : ℕ) (e : Entry) (es : List Entry) → IsFit n limit e es → stands_alone e ≡ true
alone_pass n limit (Set k t) es h = h.settable
alone_pass n limit (Store t u) es h = and_from (is_plain t) (is_plain u) h.0.1 h.1.1
alone_pass n limit (Out t) es h = h.1
alone_pass n limit (Branch r t u l) es h = and_from (is_plain t) (is_plain u) h.0.1 h.1.1
alone_pass n limit (JumpCell k) es h = refl
alone_pass n limit (Jump l) es h = refl
alone_pass n limit (Mark l) es h = refl
alone_pass n limit (Halt code) es h = refl

-- a halt has the code 0 or 1
pub halts_pass : (n limit : ℕ) (e : Entry) (es : List Entry) → IsFit n limit e es → halts_fit 1 e ≡ true
halts_pass n limit (Set k t) es h = refl
halts_pass n limit (Store t u) es h = refl
halts_pass n limit (Out t) es h = refl
halts_pass n limit (Branch r t u l) es h = refl
halts_pass n limit (JumpCell k) es h = refl
halts_pass n limit (Jump l) es h = refl
halts_pass n limit (Mark l) es h = refl
halts_pass n limit (Halt code) es h = le-leb code 1 h

-- no Set touches a home or a temporary, where the cells below the limit are neither
pub sets_pass : (homes : Homes) (n limit : ℕ) → ((k : ℕ) → k < limit → is_free homes k ≡ true) → (e : Entry) (es : List Entry) → IsFit n limit e es → set_fits homes e ≡ true
sets_pass homes n limit free (Set k t) es h = free k h.below
sets_pass homes n limit free (Store t u) es h = refl
sets_pass homes n limit free (Out t) es h = refl
sets_pass homes n limit free (Branch r t u l) es h = refl
sets_pass homes n limit free (JumpCell k) es h = refl
sets_pass homes n limit free (Jump l) es h = refl
sets_pass homes n limit free (Mark l) es h = refl
sets_pass homes n limit free (Halt code) es h = refl

-- ---- shifts by less than the width

shifts_below : (n : ℕ) (t : Node) → shifts_fit n t ≡ true → ShiftsBelow n t
shifts_below n (Const z) h = tt
shifts_below n (Base c) h = tt
shifts_below n (Label l) h = tt
shifts_below n (Cell k) h = tt
shifts_below n In h = tt
shifts_below n (Load t) h = shifts_below n t h
shifts_below n (Unary op t) h = shifts_below n t h
shifts_below n (Shifted op t k) h =
    let outer = and_parts (nat_lt 0 k && nat_lt k n) (shifts_fit n t) h in
    (ltb-true k n (and_parts (nat_lt 0 k) (nat_lt k n) outer.0).1, shifts_below n t outer.1)
shifts_below n (Binary op t u) h =
    let both = and_parts (shifts_fit n t) (shifts_fit n u) h in
    (shifts_below n t both.0, shifts_below n u both.1)

entry_shifts : (n limit : ℕ) (e : Entry) (es : List Entry) → IsFit n limit e es → EntryShifts n e
entry_shifts n limit (Set k t) es h = shifts_below n t h.shifts
entry_shifts n limit (Store t u) es h = (shifts_below n t h.0.0, shifts_below n u h.1.0)
entry_shifts n limit (Out t) es h = shifts_below n t h.0
entry_shifts n limit (Branch r t u l) es h = (shifts_below n t h.0.0, shifts_below n u h.1.0)
entry_shifts n limit (JumpCell k) es h = tt
entry_shifts n limit (Jump l) es h = tt
entry_shifts n limit (Mark l) es h = tt
entry_shifts n limit (Halt code) es h = tt

-- statements that fit shift by less than the width
pub all_shift : (n limit : ℕ) (es : List Entry) → AllFit n limit es → AllShift n es
all_shift n limit [] fit = All-nil (EntryShifts n)
all_shift n limit (e ∷ es) fit = All-cons (EntryShifts n) e es (entry_shifts n limit e es fit.0) (all_shift n limit es fit.1)
