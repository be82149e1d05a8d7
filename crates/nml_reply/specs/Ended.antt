-- What puts do to the count of faults, and how a call ends after its last put.
use Rattle.std.specs.Prelude.{◌≡◌, ◌⊎◌, ℕ, List, Option, Result, Ok, Err}
use Rattle.nk_outside.specs.Count.{Rose}
use Rattle.nk_outside.specs.Taken.{TookFront}
use Rattle.nk_outside.specs.declared.files.WriteFault.{WriteFault}
use Rattle.nk_outside.specs.declared.files.WriteFault.TheVariants as faults
use Rattle.nml_reply.specs.Told.{memory_line}
use Rattle.nml_reply.specs.declared.status.Status.{Status}
use Rattle.nml_reply.specs.declared.status.Status.TheVariants as statuses

-- the count rose where a put failed, and is as before where none did
abbrev pub CountsPuts : {A : Type 0} → ℕ → ℕ → Result A WriteFault → Type 0
CountsPuts before now (Ok done) = now ≡ before
CountsPuts before now (Err faults.Failed) = Rose before now
CountsPuts before now (Err faults.Memory) = now ≡ before

-- want of memory is answered, or the put of its line failed
abbrev pub IsMemory : ℕ → ℕ → Status → Type 0
IsMemory before now status = ((status ≡ statuses.Memory) × (now ≡ before)) ⊎ ((status ≡ statuses.Write) × Rose before now)

-- after the put of the text: nothing more, or the line `memory` where memory was wanted
abbrev pub Ends : Result (Unit {0}) WriteFault → Status → Option (List ℕ) → Option (List ℕ) → ℕ → ℕ → Status → Type 0
Ends (Ok u) success old new before now status = (new ≡ old) × (now ≡ before) × (status ≡ success)
Ends (Err faults.Failed) success old new before now status = (new ≡ old) × (now ≡ before) × (status ≡ statuses.Write)
Ends (Err faults.Memory) success old new before now status = TookFront old new memory_line × IsMemory before now status
