-- Two bounded runs agree: each comes as far as the other.
use Rattle.std.specs.Prelude.{◌≡◌, ℕ, ℤ, List, ◌++◌}
use Rattle.nk_outside.specs.Outcome.{Outcome}
use Rattle.nk_outside.specs.declared.stop.Stop.TheVariants as stops

-- The second goes on from the first: where the first has stopped, it has the same outputs and the same stop; else it has put out as much, and
-- perhaps more.
pub data GoesOn (a b : Outcome) : Type 0 where
  Stopped : a ≡ b → GoesOn a b
  Further : a.stop ≡ stops.Running → (more : List ℤ) → b.out ≡ a.out ++ more → GoesOn a b

-- for every bound on one side there is one on the other that goes on from it, both ways
pub record Agree (f g : ℕ → Outcome) : Type 0 where
  pub forth : (n : ℕ) → (m : ℕ) × GoesOn (f n) (g m)
  pub back : (m : ℕ) → (n : ℕ) × GoesOn (g m) (f n)
