-- Readings settle: from so many calls on they come to one thing, which is told.
use Rattle.std.proofs.Common.{◌≡◌, ℕ, zero, suc, ◌<◌, ◌≤◌, List, ◌++◌, length, Option, Some, None, ap, ◌∙◌, arith, length-append}
use Rattle.readings.specs.Symbol.{Symbol}
use Rattle.readings.specs.Reading.{Read, Found, Stuck, Unread, read_on, behind, found_or_stuck, mark}
use Rattle.readings.specs.Lawful.{Settles, IsTold}

-- whatever the number of calls
pub settles_at_once : {A : Type 0} (m : ℕ) (reads : ℕ → Read A) (a : Read A) → IsTold a → ((n : ℕ) → reads n ≡ a) → Settles m reads
settles_at_once m reads a t h = record { comes = a; told = t; is = λ n lt. h n }

-- with more calls
pub settles_later : {A : Type 0} (m k : ℕ) (reads : ℕ → Read A) → m ≤ k → Settles m reads → Settles k reads
settles_later m k reads le s = record { comes = s.comes; told = s.told; is = λ n lt. s.is n (omega (arith, le, lt)) }

-- by another reading
pub settles_alike : {A : Type 0} (m : ℕ) (reads others : ℕ → Read A) → ((n : ℕ) → others n ≡ reads n) → Settles m reads → Settles m others
settles_alike m reads others h s = record { comes = s.comes; told = s.told; is = λ n lt. h n ∙ s.is n lt }

-- one call more
pub settles_one_more : {A : Type 0} (m : ℕ) (reads : ℕ → Read A) → Settles m (λ n. reads (suc n)) → Settles (suc m) reads
settles_one_more m reads s = record { comes = s.comes; told = s.told; is = from }
  where
    from : (n : ℕ) → suc m < n → reads n ≡ s.comes
    from zero lt = absurd (omega (arith, lt))
    from (suc n) lt = s.is n (omega (arith, lt))

-- what goes on behind what was found
pub settles_behind : {A B : Type 0} (m : ℕ) (reads : ℕ → Read A) (next : ℕ → A → List Symbol → Read B) → Settles m reads
    → ((x : A) (rest : List Symbol) → reads (suc m) ≡ Found x rest → Settles m (λ n. next n x rest)) → Settles m (λ n. read_on (reads n) (next n))
settles_behind {A = A} {B = B} m reads next s k = by s.comes s.told s.is
  where
    by : (a : Read A) → IsTold a → ((n : ℕ) → m < n → reads n ≡ a) → Settles m (λ n. read_on (reads n) (next n))
    by (Found x rest) t h =
        let g = k x rest (h (suc m) (omega arith)) in
        record { comes = g.comes; told = g.told; is = λ n lt. ap (λ a. read_on a (next n)) (h n lt) ∙ g.is n lt }
    by (Stuck rest) t h = record { comes = Stuck rest; told = tt; is = λ n lt. ap (λ a. read_on a (next n)) (h n lt) }
    by Unread t h = absurd t

-- what stands behind a front is no longer than the whole
pub no_longer : (ss front rest : List Symbol) → ss ≡ front ++ rest → length rest ≤ length ss
no_longer ss front rest e = omega (arith, ap length e, length-append front rest)

-- a keyword or a mark is found or not
found_told : {A : Type 0} (ss : List Symbol) (o : Option (A × List Symbol)) → IsTold (found_or_stuck ss o)
found_told ss None = tt
found_told ss (Some (x, rest)) = tt

pub mark_told : (text : List ℕ) (ss : List Symbol) → IsTold (mark text ss)
mark_told text ss = found_told ss (behind text ss)
