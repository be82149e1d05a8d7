-- What the table of marks has so far, and the statement at a place.
use Rattle.std.proofs.Common.{◌≡◌, refl, sym, ap, ◌∙◌, subst, ℕ, List, length, map, drop, true, false, nat_lt, Some, None}
use Rattle.std.specs.Prelude.{slice_get, slice_index_or, option_map}
use Rattle.std.specs.Option.{option_or}
use Rattle.std.proofs.lemmas.Bool.{ltb-true, ltb-false}
use Rattle.std.proofs.lemmas.Option.{slice_get-map, slice_get_within, slice_get_past, slice_get_read, get_or_from_slice_get}
use Rattle.ir_run.specs.Entry.{Entry, entry}
use Rattle.ir_run.specs.Value.{State}
use Rattle.ir_run.specs.Run.{place_from, place_of, act, step}
use Rattle.ir_run.specs.Shifts.{EntryShifts, AllShift}
use Rattle.ir_run.specs.Stands.{found}
use Rattle.ir_run.specs.declared.statement.Stmt.{Stmt}

-- what the table has of the statements before this place, and what comes of those behind
abbrev pub Walks : List (ℕ × ℕ) → ℕ → List Stmt → Type 0
Walks table at all = (l : ℕ) → option_or (found table l) (place_from at (map entry (drop at all)) l) ≡ place_of (map entry all) l

-- the statement that was read at a place
abbrev pub IsRead : List Stmt → ℕ → Stmt → Type 0
IsRead all p s = (true ≡ nat_lt p (length all)) × (s ≡ slice_index_or all p s)

entry_at : (all : List Stmt) (p : ℕ) (s : Stmt) → IsRead all p s → slice_get (map entry all) p ≡ Some (entry s)
entry_at all p s h = slice_get-map entry all p ∙ ap (option_map entry) (slice_get_read all (length all) p s refl (ltb-true p (length all) (sym h.0)) h.1)

get_shifts : (n : ℕ) (es : List Entry) (p : ℕ) (e : Entry) → slice_get es p ≡ Some e → AllShift n es → EntryShifts n e
get_shifts n es p e is h = subst (EntryShifts n) (get_or_from_slice_get es p e e is) (h p e (slice_get_within es p e is))

pub shifts_at : (n : ℕ) (all : List Stmt) (p : ℕ) (s : Stmt) → IsRead all p s → AllShift n (map entry all) → EntryShifts n (entry s)
shifts_at n all p s is h = get_shifts n (map entry all) p (entry s) (entry_at all p s is) h

pub step_at : (n : ℕ) (all : List Stmt) (s : State) (x : Stmt) → IsRead all s.place x → act (map entry all) n (Some (entry x)) s ≡ step (map entry all) n s
step_at n all s x is = ap (λ o. act (map entry all) n o s) (sym (entry_at all s.place x is))

pub step_past : (n : ℕ) (all : List Stmt) (s : State) → false ≡ nat_lt s.place (length all) → act (map entry all) n None s ≡ step (map entry all) n s
step_past n all s past =
    ap (λ o. act (map entry all) n o s) (sym (slice_get-map entry all s.place ∙ ap (option_map entry) (slice_get_past all s.place (ltb-false s.place (length all) (sym past)))))
