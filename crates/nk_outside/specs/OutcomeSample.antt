-- Worked examples of outcomes and of what goes on from them, each by computation.
use Rattle.std.specs.Prelude.{◌≡◌, refl, pos, negsuc, [], ◌∷◌, codes}
use Rattle.std.specs.Fmt.{signed_decimal}
use Rattle.nk_outside.specs.declared.files.WriteFault.TheVariants as write
use Rattle.nk_outside.specs.declared.stop.EvalFault.TheVariants as fault
use Rattle.nk_outside.specs.declared.stop.Stop.TheVariants as stops
use Rattle.nk_outside.specs.Outcome.{Outcome, line, lines, of_write}
use Rattle.nk_outside.specs.Agree.{GoesOn, Stopped, Further}

-- no outputs have no text
no_lines : lines [] ≡ []
no_lines = refl

-- a fault keeps its name
failed : of_write write.Failed ≡ fault.Failed
failed = refl

-- 7 was put out, and the run goes on: another puts out 8 behind it and ends
goes_on : GoesOn (record { out = pos 7 ∷ []; stop = stops.Running }) (record { out = pos 7 ∷ pos 8 ∷ []; stop = stops.Ended })
goes_on = Further refl (pos 8 ∷ []) refl

-- what has stopped is the same
stopped : GoesOn (record { out = pos 7 ∷ []; stop = stops.Trap 1 }) (record { out = pos 7 ∷ []; stop = stops.Trap 1 })
stopped = Stopped refl
