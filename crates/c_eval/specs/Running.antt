-- For private contracts: a run so far.
use Rattle.std.specs.Prelude.{◌≡◌, ◌<◌, ◌≤◌, ℕ, ℤ, List, [], reverse, Option, Some, None, Result, Ok, Err}
use Rattle.nk_outside.specs.Outcome.{Outcome, lines}
use Rattle.nk_outside.specs.Taken.{Took, TookFront}
use Rattle.nk_outside.specs.declared.stop.Stop.{Stop}
use Rattle.nk_outside.specs.declared.stop.EvalFault.{EvalFault}
use Rattle.c_tree.specs.Program.{Program}
use Rattle.c_frames.specs.Steps.{HasStopped, follow, rest_of, steps_left}
use Rattle.c_machine.specs.declared.code.Code.{Code}
use Rattle.c_machine.specs.declared.machine.Machine.{Machine}
use Rattle.c_frames.specs.Small.{IsSmallProgram, IsSmallWork, AreSmallFrames}
use Rattle.c_machine.specs.Stands.{config_of, work_of, frames_of}

module _ (p : Program) (c : Code) (input : List ℤ) where
  -- what is left of the run is that of this outcome, the lines of its outputs so far were taken, it stops within so many steps, and all numbers are
  -- small
  pub record Running (o : Outcome) (most : ℕ) (start now : Option (List ℕ)) (m : Machine) : Type 0 where
    pub out : List ℤ
    pub follows : o ≡ rest_of p c.bits (config_of p c.bits c.nodes.items input m out)
    pub took : Took start now (lines out)
    pub steps : ℕ
    pub within : steps ≤ most
    pub stopped : HasStopped p c.bits (follow p c.bits steps (config_of p c.bits c.nodes.items input m []))
    pub program : IsSmallProgram p
    pub work : IsSmallWork p c.bits (work_of p c.bits c.nodes.items (reverse m.arguments.items) m.task)
    pub frames : AreSmallFrames (frames_of c.nodes.items m.frames.items)

  abbrev pub left : ℕ → Machine → ℕ
  left most m = steps_left p c.bits most (config_of p c.bits c.nodes.items input m [])

  -- it goes on, with fewer steps left; or the run is over, or is broken off
  abbrev pub Advanced : Outcome → ℕ → (start now : Option (List ℕ)) → (old new : Machine) → Result (Option Stop) EvalFault → Type 0
  Advanced o most start now old new (Ok None) = Running o most start now new × (left most new < left most old)
  Advanced o most start now old new (Ok (Some stop)) = (o.stop ≡ stop) × Took start now (lines o.out)
  Advanced o most start now old new (Err fault) = TookFront start now (lines o.out)
