-- What a run of statements that prints comes to: its lines and its stop, or a front of its lines.
use Rattle.std.specs.Prelude.{◌≡◌, ℕ, List, Option, Result, Ok, Err}
use Rattle.nk_outside.specs.Count.{Rose}
use Rattle.nk_outside.specs.Outcome.{Outcome, lines}
use Rattle.nk_outside.specs.Taken.{Took, TookFront}
use Rattle.nk_outside.specs.declared.stop.Stop.{Stop}
use Rattle.nk_outside.specs.declared.stop.EvalFault.{EvalFault}
use Rattle.nk_outside.specs.declared.stop.EvalFault.TheVariants as faults

-- the lines of the run's outputs were taken, and this is its stop; or the run was broken off, and a front of the lines was taken
abbrev pub Prints : Outcome → (old new : Option (List ℕ)) → Result Stop EvalFault → Type 0
Prints o old new (Ok stop) = (o.stop ≡ stop) × Took old new (lines o.out)
Prints o old new (Err fault) = TookFront old new (lines o.out)

-- the count of a sink's faults rose where a put failed, and is as before where none did
abbrev pub CountsPuts : {A : Type 0} → (before now : ℕ) → Result A EvalFault → Type 0
CountsPuts before now (Ok done) = now ≡ before
CountsPuts before now (Err faults.Failed) = Rose before now
CountsPuts before now (Err faults.Memory) = now ≡ before
