-- Where nothing fails: what the words come to, and that it is answered in full.
use Rattle.std.specs.Prelude.{◌≡◌, ◌⊎◌, ℕ, suc, List, [], ◌∷◌, length, Option, Some, None, nat_le, if◌then◌else◌}
use Rattle.nk_outside.specs.Count.{Rose}
use Rattle.nk_outside.specs.Held.{Names, file_limit}
use Rattle.nk_outside.specs.Taken.{Took}
use Rattle.image_file.specs.Valid.{AreBytes}
use Rattle.nml_suite.specs.Answer.{Moment}
use Rattle.nml_suite.specs.Coming.{ComesTo}
use Rattle.nml_suite.specs.Files.{Leaves}
use Rattle.nml_command.specs.Form.{Form}
use Rattle.nml_reply.specs.Reading.{Reading, Got, Absent, TooLong, Unread}
use Rattle.nml_reply.specs.declared.status.Status.{Status}
use Rattle.nml_reply.specs.declared.status.Status.TheVariants as statuses
use Rattle.nml_suite.specs.Reading.{Asked}
use Rattle.nml_suite.specs.Work.{Work}

-- ---- what is defined

-- what a read answers, by its place in the row of reads and by the name
abbrev pub Answering : Type 0
Answering = ℕ → List ℕ → Reading

-- these reads were answered so, the first of them being the one at this place
abbrev pub AreAnswered : Answering → ℕ → List Asked → Type 0
AreAnswered answers place [] = Unit {0}
AreAnswered answers place (one ∷ more) = (one.1 ≡ answers place one.0) × AreAnswered answers (suc place) more

-- where reads are answered so, the words come to this
pub record ComesOut (answers : Answering) (form : Option Form) (work : Work) : Type 0 where
  pub asked : List Asked
  pub answered : AreAnswered answers 0 asked
  pub comes : ComesTo form asked work

-- each read is answered, and none wants memory
abbrev pub AllAnswer : Answering → Type 0
AllAnswer answers = (place : ℕ) (name : List ℕ) → answers place name ≡ Unread → ⊥

-- each read that gives bytes gives numbers below 256
abbrev pub AreReadable : Answering → Type 0
AreReadable answers = (place : ℕ) (name bytes : List ℕ) → answers place name ≡ Got bytes → AreBytes bytes

-- what a read answers by what a name holds, where it doesn't fail
abbrev pub reading_of : Option (List ℕ) → Reading
reading_of None = Absent
reading_of (Some bytes) = if nat_le (length bytes) file_limit then Got bytes else TooLong

-- what reads answer of files that are told, where none fails
abbrev pub told_of : Names → Answering
told_of names place name = reading_of (names name)

-- ---- the answer

-- no count of faults rose
pub record NeverFails (before now : Moment) : Type 0 where
  pub reads : Rose before.store.counts.read_faults now.store.counts.read_faults → ⊥
  pub writes : Rose before.store.counts.write_faults now.store.counts.write_faults → ⊥
  pub puts : Rose before.faults now.faults → ⊥

-- the status is that of what is told, the whole text was taken, and the file was written where there is one
pub record AnswersInFull (before now : Moment) (work : Work) (status : Status) : Type 0 where
  pub is : status ≡ work.reply.status
  pub took : Took before.taken now.taken work.reply.text
  pub saved : Leaves before.store now.store work.file

-- the words come to this, which is answered in full
pub record IsAnswered (names : Names) (before now : Moment) (form : Option Form) (status : Status) : Type 0 where
  pub work : Work
  pub comes : ComesOut (told_of names) form work
  pub full : AnswersInFull before now work status

-- Where the files are told and nothing fails, what the words come to is answered in full, or memory was wanted.
abbrev pub IsComplete : Moment → Moment → Option Form → Status → Type 0
IsComplete before now form status =
    (names : Names) → before.store.held ≡ Some names → NeverFails before now → (status ≡ statuses.Memory) ⊎ IsAnswered names before now form status
