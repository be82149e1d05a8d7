-- The cause of what the read of a file answered, and a row of reads one after the other.
use Rattle.std.specs.Prelude.{◌≡◌, ◌≤◌, ℕ, List, [], ◌∷◌, Option}
use Rattle.nk_outside.specs.Count.{Counts, counted, Rose}
use Rattle.nk_outside.specs.Held.{Names, Reads, Lacks, IsTooLong}
use Rattle.nml_reply.specs.Reading.{Reading, Got, Absent, Failed, TooLong, Unread}

-- the files: what they hold, and their counts
pub record Store : Type 0 where
  pub held : Option Names
  pub counts : Counts

abbrev pub store : Option Names → Counts → Store
store held counts = record { held = held; counts = counts }

-- no bytes came, and not for want of memory
abbrev pub IsShort : Reading → Type 0
IsShort (Got bytes) = ⊥
IsShort Absent = Unit {0}
IsShort Failed = Unit {0}
IsShort TooLong = Unit {0}
IsShort Unread = ⊥

-- the cause of what was answered for the name, between two moments with these counts
abbrev pub HasReading : Option Names → Counts → Counts → List ℕ → Reading → Type 0
HasReading held before now name (Got bytes) = Reads held name bytes
HasReading held before now name Absent = Lacks held name × Rose before.absents now.absents
HasReading held before now name Failed = Rose before.read_faults now.read_faults
HasReading held before now name TooLong = IsTooLong held name
HasReading held before now name Unread = Unit {0}

-- One read: it has the cause of its answer, is one call, changes no file, and no count falls.
pub record IsRead (before now : Store) (name : List ℕ) (reading : Reading) : Type 0 where
  pub cause : HasReading before.held before.counts now.counts name reading
  pub calls : now.counts.calls ≡ counted before.counts.calls
  pub held : now.held ≡ before.held
  pub read_faults : before.counts.read_faults ≤ now.counts.read_faults
  pub absents : before.counts.absents ≤ now.counts.absents
  pub write_faults : now.counts.write_faults ≡ before.counts.write_faults

-- a file that was asked for: its name, and what the read of it answered
abbrev pub Asked : Type 0
Asked = List ℕ × Reading

-- These files were read one after the other, and nothing else was done to the files.
abbrev pub AreRead : Store → Store → List Asked → Type 0
AreRead before now [] = now ≡ before
AreRead before now (one ∷ more) = (next : Store) × IsRead before next one.0 one.1 × AreRead next now more
