-- For private contracts: a run so far.
use Rattle.std.specs.Prelude.{◌≡◌, ℕ, ℤ, List, Option, Some, None, Result, Ok, Err}
use Rattle.nk_outside.specs.Outcome.{Outcome, lines}
use Rattle.nk_outside.specs.Taken.{Took, TookFront}
use Rattle.nk_outside.specs.declared.stop.Stop.{Stop}
use Rattle.nk_outside.specs.declared.stop.EvalFault.{EvalFault}
use Rattle.ir_run.specs.Runs.{put_before, run}
use Rattle.ir_run.specs.Entry.{Entry}
use Rattle.ir_run.specs.Value.{State}
use Rattle.ir_run.specs.Run.{step}

module _ (entries : List Entry) (n : ℕ) where
  -- the outcome is what was put out and then what so many steps come to, and the lines of what was put out were taken
  pub record Running (o : Outcome) (start now : Option (List ℕ)) (steps : ℕ) (s : State) : Type 0 where
    pub out : List ℤ
    pub follows : o ≡ put_before out (run (step entries n) steps s)
    pub took : Took start now (lines out)

  -- one step on; or the run is over, or is broken off
  abbrev pub Advanced : Outcome → (start now : Option (List ℕ)) → (steps : ℕ) → State → Result (Option Stop) EvalFault → Type 0
  Advanced o start now steps s (Ok None) = Running o start now steps s
  Advanced o start now steps s (Ok (Some stop)) = (o.stop ≡ stop) × Took start now (lines o.out)
  Advanced o start now steps s (Err fault) = TookFront start now (lines o.out)
