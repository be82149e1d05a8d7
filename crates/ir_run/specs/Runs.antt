-- Bounded runs of anything that makes one step after another, and how one of them is met by another.
use Rattle.std.specs.Prelude.{◌≡◌, ℕ, zero, suc, ◌+◌, ◌*◌, ◌≤◌, ℤ, List, [], ◌++◌}
use Rattle.nk_outside.specs.Outcome.{Outcome}
use Rattle.nk_outside.specs.Agree.{GoesOn}
use Rattle.nk_outside.specs.declared.stop.Stop.{Stop}
use Rattle.nk_outside.specs.declared.stop.Stop.TheVariants as stops

-- what one step comes to: it goes on with these outputs, or stops
pub data Turn (S : Type 0) : Type 0 where
  Goes : (out : List ℤ) (next : S) → Turn S
  Ends : Stop → Turn S

-- nothing more is put out
abbrev pub stopped : Stop → Outcome
stopped stop = record { out = []; stop = stop }

-- the same behind these outputs
abbrev pub put_before : List ℤ → Outcome → Outcome
put_before out o = record { out = out ++ o.out; stop = o.stop }

-- goes on from a step
abbrev pub followed : {S : Type 0} → (S → Outcome) → Turn S → Outcome
followed rest (Goes out next) = put_before out (rest next)
followed rest (Ends stop) = stopped stop

-- at most so many steps
abbrev pub run : {S : Type 0} → (S → Turn S) → ℕ → S → Outcome
run step zero s = stopped stops.Running
run step (suc n) s = followed (run step n) (step s)

-- a greater bound goes on from a smaller one
abbrev pub Grows : (ℕ → Outcome) → Type 0
Grows g = (n m : ℕ) → n ≤ m → GoesOn (g n) (g m)

-- each bounded run of f is one of g, of at least so many steps that each of them, but for c beforehand, stands for at most w of f
abbrev pub Follows : (w c : ℕ) → (f g : ℕ → Outcome) → Type 0
Follows w c f g = (n : ℕ) → (m : ℕ) × (n ≤ w * m + c) × (g m ≡ f n)
