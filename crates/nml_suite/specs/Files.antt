-- What becomes of the files, and how often they are called.
use Rattle.std.specs.Prelude.{◌≡◌, ◌⊎◌, ℕ, ◌+◌, ◌≤◌, List, [], ◌∷◌, length, Option, Some, None}
use Rattle.nk_outside.specs.Count.{Rose}
use Rattle.nk_outside.specs.Held.{Holds, SameElsewhere}
use Rattle.nml_suite.specs.Answer.{Moment}
use Rattle.nml_suite.specs.Coming.{ComesTo}
use Rattle.nml_command.specs.Form.{Form, named_to_read, named_to_write}
use Rattle.nml_reply.specs.declared.status.Status.{Status}
use Rattle.nml_reply.specs.declared.status.Status.TheVariants as statuses
use Rattle.nml_suite.specs.Reading.{Store, Asked, HasReading}
use Rattle.nml_suite.specs.Work.{Work, Written}

-- no file is changed, and no write failed
pub record KeepsFiles (before now : Store) : Type 0 where
  pub held : now.held ≡ before.held
  pub write_faults : now.counts.write_faults ≡ before.counts.write_faults

-- the file has its bytes, and all others are as before
pub record HasFile (before now : Store) (file : Written) : Type 0 where
  pub holds : Holds now.held file.name file.bytes
  pub others : SameElsewhere file.name before.held now.held

-- the file has its bytes, where there is one, and all others are as before
abbrev pub Leaves : Store → Store → Option Written → Type 0
Leaves before now None = KeepsFiles before now
Leaves before now (Some file) = HasFile before now file

-- no file is changed but the one of this name
abbrev pub LeavesBut : Store → Store → Option (List ℕ) → Type 0
LeavesBut before now None = KeepsFiles before now
LeavesBut before now (Some name) = SameElsewhere name before.held now.held

-- each file that was asked for has the cause of its answer
abbrev pub HaveCauses : Store → Store → List Asked → Type 0
HaveCauses before now [] = Unit {0}
HaveCauses before now (one ∷ more) = HasReading before.held before.counts now.counts one.0 one.1 × HaveCauses before now more

-- the words come to this, by what the reads answered, each with its cause
pub record HasWork (before now : Store) (form : Option Form) (work : Work) : Type 0 where
  pub asked : List Asked
  pub causes : HaveCauses before now asked
  pub comes : ComesTo form asked work

-- the file that the words come to was written
pub record HasDefined (before now : Store) (form : Option Form) : Type 0 where
  pub work : Work
  pub has : HasWork before now form work
  pub file : Written
  pub is : work.file ≡ Some file
  pub written : HasFile before now file

-- an answer that comes before the write, or without one
abbrev pub IsRefusal : Status → Type 0
IsRefusal statuses.Done = ⊥
IsRefusal statuses.Write = ⊥
IsRefusal statuses.Memory = ⊥
IsRefusal _ = Unit {0}

-- No file is changed but the one that the words name to be written, and that not where the call is refused; where no write fails, it is as
-- before or as the words come to.
pub record LeavesOthers (before now : Moment) (form : Option Form) (status : Status) : Type 0 where
  pub elsewhere : LeavesBut before.store now.store (named_to_write form)
  pub refused : IsRefusal status → KeepsFiles before.store now.store
  pub defined : (Rose before.store.counts.write_faults now.store.counts.write_faults → ⊥) → (now.store.held ≡ before.store.held) ⊎ HasDefined before.store now.store form

-- how many files there are
abbrev pub count_of : Option (List ℕ) → ℕ
count_of None = 0
count_of (Some name) = 1

-- there is at most one call for each file that the words name, a name that stands twice counting twice
abbrev pub CallsOnce : Moment → Moment → Option Form → Type 0
CallsOnce before now form = now.store.counts.calls ≤ before.store.counts.calls + length (named_to_read form) + count_of (named_to_write form)
