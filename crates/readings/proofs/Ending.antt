-- Where a reading is told, and fewer symbols are left.
use Rattle.std.proofs.Common.{◌≡◌, ℕ, ◌<◌, ◌≤◌, List, [], ◌∷◌, length, Option, Some, None, subst, arith, Bool, true, false}
use Rattle.std.specs.Prelude.{if◌then◌else◌}
use Rattle.nk_base.specs.Text.{text_eq}
use Rattle.readings.specs.Symbol.{Symbol}
use Rattle.readings.specs.Reading.{Read, Found, Stuck, Unread, read_on, found_or_stuck, mark}
use Rattle.readings.specs.Lawful.{IsTold}
use Rattle.readings.proofs.Keeps.{Keeps, Same, Short}

-- ---- one reading

pub kept_told : {A : Type 0} (a b : Read A) → Keeps a b → IsTold a → b ≡ a
kept_told a b (Same s) h = s
kept_told a b (Short s) h = absurd (subst IsTold s h)

-- ---- what is left is shorter

-- it is told, and fewer than m symbols stand behind what was found
abbrev pub Ends : {A : Type 0} → ℕ → Read A → Type 0
Ends m (Found x rest) = length rest < m
Ends m (Stuck rest) = Unit {0}
Ends m Unread = ⊥

pub ends_more : {A : Type 0} (m n : ℕ) (a : Read A) → m ≤ n → Ends m a → Ends n a
ends_more m n (Found x rest) le h = omega arith
ends_more m n (Stuck rest) le h = tt
ends_more m n Unread le h = h

pub told_of : {A : Type 0} (m : ℕ) (a : Read A) → Ends m a → IsTold a
told_of m (Found x rest) h = tt
told_of m (Stuck rest) h = tt
told_of m Unread h = h

pub after_ends : {A B : Type 0} (m : ℕ) (a : Read A) (next : A → List Symbol → Read B) → Ends m a → ((x : A) (rest : List Symbol) → length rest < m → Ends m (next x rest)) → Ends m (read_on a next)
after_ends m (Found x rest) next h k = k x rest h
after_ends m (Stuck rest) next h k = tt
after_ends m Unread next h k = h

pub if_ends : {A : Type 0} (m : ℕ) (b : Bool) (here : List Symbol) (a : Read A) → Ends m a → Ends m (if b then Stuck here else a)
if_ends m true here a h = tt
if_ends m false here a h = h

pub mark_ends : (m : ℕ) (text : List ℕ) (ss : List Symbol) → length ss < m → Ends m (mark text ss)
mark_ends m text [] lt = tt
mark_ends m text (Symbol.Fixed at other ∷ ss) lt = by (text_eq other text)
  where
    by : (b : Bool) → Ends m (found_or_stuck (Symbol.Fixed at other ∷ ss) (if◌then◌else◌ {A = Option (ℕ × List Symbol)} b (Some (at, ss)) None))
    by true = omega arith
    by false = tt
mark_ends m text (Symbol.Named at other ∷ ss) lt = tt
mark_ends m text (Symbol.Number at value ∷ ss) lt = tt
mark_ends m text (Symbol.Quoted at other ∷ ss) lt = tt
