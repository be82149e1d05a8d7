-- For private contracts: what was put out of a program's run.
use Rattle.std.specs.Prelude.{◌≡◌, ℕ, List, Option, Result, Ok, Err}
use Rattle.nk_outside.specs.Taken.{Took, TookFront}
use Rattle.nk_outside.specs.declared.files.WriteFault.{WriteFault}
use Rattle.nml_reply.specs.Reply.{Reply}
use Rattle.nml_reply.specs.declared.status.Status.{Status}

-- the whole text was taken, and this is its status; or a front of it was taken
abbrev pub IsTold : Reply → Option (List ℕ) → Option (List ℕ) → Result Status WriteFault → Type 0
IsTold o old new (Ok status) = Took old new o.text × (status ≡ o.status)
IsTold o old new (Err fault) = TookFront old new o.text
