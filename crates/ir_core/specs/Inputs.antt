-- Runs that take an input.
use Rattle.std.specs.Prelude.{◌≡◌, ℕ, ℤ, List, All}
use Rattle.nk_outside.specs.Outcome.{Outcome}
use Rattle.nk_outside.specs.Agree.{Agree}
use Rattle.ir_core.specs.Operator.{wrap}

-- a number of int(n)
abbrev pub IsNumber : ℕ → ℤ → Type 0
IsNumber n z = wrap n z ≡ z

-- runs that take an input agree where they do on every list of numbers of int(n)
abbrev pub AgreeOnInputs : ℕ → (List ℤ → ℕ → Outcome) → (List ℤ → ℕ → Outcome) → Type 0
AgreeOnInputs n f g = (input : List ℤ) → All (IsNumber n) input → Agree (f input) (g input)
