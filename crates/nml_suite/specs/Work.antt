-- What a call comes to, and what came of the file that it writes.
use Rattle.std.specs.Prelude.{◌≡◌, ◌≤◌, ℕ, List, Option, Some, None}
use Rattle.nk_outside.specs.Count.{counted, Rose}
use Rattle.nk_outside.specs.Held.{Holds, SameElsewhere}
use Rattle.nml_reply.specs.Reply.{Reply, starved, write_failed}
use Rattle.nml_suite.specs.Reading.{Store}

-- a file that is written: its name, and its bytes
pub record Written : Type 0 where
  pub name : List ℕ
  pub bytes : List ℕ

-- What a call comes to: the file that is written first, where there is one, and then what is told.
pub record Work : Type 0 where
  pub file : Option Written
  pub reply : Reply

-- no file is written
abbrev pub telling : Reply → Work
telling r = record { file = None; reply = r }

-- one call, which is no read: no count of reads changes, and that of write faults doesn't fall
pub record IsWriteCall (before now : Store) : Type 0 where
  pub calls : now.counts.calls ≡ counted before.counts.calls
  pub read_faults : now.counts.read_faults ≡ before.counts.read_faults
  pub absents : now.counts.absents ≡ before.counts.absents
  pub write_faults : before.counts.write_faults ≤ now.counts.write_faults

-- by one call the file got these bytes, and all others are as before
pub record HasWritten (before now : Store) (file : Written) : Type 0 where
  pub holds : Holds now.held file.name file.bytes
  pub others : SameElsewhere file.name before.held now.held
  pub call : IsWriteCall before now

-- the file was written, where there is one; else nothing was done to the files
abbrev pub IsSaved : Store → Store → Option Written → Type 0
IsSaved before now None = now ≡ before
IsSaved before now (Some file) = HasWritten before now file

-- The file was written, where there is one, and what the call comes to is told; or its write failed, which is told; or memory was wanted for it.
pub data Filed (before now : Store) (work : Work) (told : Reply) : Type 0 where
  Kept : IsSaved before now work.file → told ≡ work.reply → Filed before now work told
  Failed : (file : Written) → work.file ≡ Some file → SameElsewhere file.name before.held now.held → IsWriteCall before now
      → Rose before.counts.write_faults now.counts.write_faults → told ≡ write_failed file.name → Filed before now work told
  Starved : (file : Written) → work.file ≡ Some file → now.held ≡ before.held → IsWriteCall before now → told ≡ starved → Filed before now work told
