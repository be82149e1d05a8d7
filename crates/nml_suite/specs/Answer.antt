-- The answer of a call: what was read and what that comes to, what came of the file to be written, and what was told.
use Rattle.std.specs.Prelude.{◌≡◌, ◌⊎◌, ℕ, List, [], ◌∷◌, Option, Some, None}
use Rattle.nk_outside.specs.Count.{Counts}
use Rattle.nk_outside.specs.Held.{Names}
use Rattle.nml_suite.specs.Coming.{ComesTo}
use Rattle.nml_command.specs.Form.{Form, named_to_read, named_to_write}
use Rattle.nml_reply.specs.Reply.{Reply, starved}
use Rattle.nml_reply.specs.Told.{Told}
use Rattle.nml_reply.specs.declared.status.Status.{Status}
use Rattle.nml_suite.specs.Reading.{Store, store, Asked, AreRead}
use Rattle.nml_suite.specs.Work.{Work, Written, telling, Filed}

-- what the call sees and changes of the world: the files, and the sink's bytes and faults
pub record Moment : Type 0 where
  pub store : Store
  pub taken : Option (List ℕ)
  pub faults : ℕ

abbrev pub moment : Option Names → Counts → Option (List ℕ) → ℕ → Moment
moment held counts taken faults = record { store = store held counts; taken = taken; faults = faults }

-- the files that were asked for are the first of these, in order, each once
abbrev pub AreNamed : List Asked → List (List ℕ) → Type 0
AreNamed [] names = Unit {0}
AreNamed (one ∷ more) [] = ⊥
AreNamed (one ∷ more) (name ∷ names) = (one.0 ≡ name) × AreNamed more names

-- the file that is written, where there is one, has this name
abbrev pub IsNamed : Option Written → Option (List ℕ) → Type 0
IsNamed None name = Unit {0}
IsNamed (Some file) name = name ≡ Some file.name

-- The answer of a whole call. What is come to is what the words come to, or that memory was wanted.
pub record Answers (before now : Moment) (form : Option Form) (status : Status) : Type 0 where
  pub asked : List Asked
  pub read : Store
  pub reads : AreRead before.store read asked
  pub named : AreNamed asked (named_to_read form)
  pub work : Work
  pub comes : ComesTo form asked work ⊎ (work ≡ telling starved)
  pub writes : IsNamed work.file (named_to_write form)
  pub told : Reply
  pub filed : Filed read now.store work told
  pub puts : Told told before.taken now.taken before.faults now.faults status
