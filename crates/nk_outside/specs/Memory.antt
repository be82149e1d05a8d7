-- Files and sinks over memory. They number their calls from 1, and fail those that are listed.
use Rattle.std.specs.Prelude.{◌≡◌, ℕ, ◌==◌, Bool, true, false, nat_lt, if◌then◌else◌, List, length, Option, Some, None, IsOk}
use Rattle.std.specs.List.{list_any}
use Rattle.std.specs.declared.result.Result.{Result}
use Rattle.std.specs.declared.result.Result.TheVariants.{Ok, Err}
use Rattle.std.specs.Global.{Vec}
use Rattle.nk_outside.specs.Count.{Counts, counted}
use Rattle.nk_outside.specs.Held.{Names, names_of, file_limit}
use Rattle.nk_outside.specs.declared.files.ReadFault.{ReadFault}
use Rattle.nk_outside.specs.declared.files.ReadFault.TheVariants as faults
use Rattle.nk_outside.specs.declared.files.WriteFault.{WriteFault}
use Rattle.nk_outside.specs.declared.files.WriteFault.TheVariants as write_faults
use Rattle.nk_outside.specs.declared.mem_files.MemFiles.{MemFiles}
use Rattle.nk_outside.specs.declared.mem_sink.MemSink.{MemSink}

-- whether the call behind so many is listed
abbrev pub is_next_listed : List ℕ → ℕ → Bool
is_next_listed listed calls = list_any (λ n. n == counted calls) listed

-- one more where the test holds
abbrev pub counted_if : Bool → ℕ → ℕ
counted_if test n = if test then counted n else n

-- ---- files

-- the map that files over memory tell
abbrev pub names : MemFiles → Names
names f = names_of f.files.entries

-- their counts
abbrev pub counts_of : MemFiles → Counts
counts_of f = record { calls = f.calls; read_faults = f.read_faults; write_faults = f.write_faults; absents = f.absents }

-- whether their next call fails
abbrev pub fails_next : MemFiles → Bool
fails_next f = is_next_listed f.fail.items f.calls

-- what a read answers while memory lasts, by whether it fails and by the bytes of the name
abbrev pub read_answer : Bool → Option (List ℕ) → Result (List ℕ) ReadFault
read_answer true held = Err faults.Failed
read_answer false None = Err faults.Absent
read_answer false (Some bytes) = if nat_lt file_limit (length bytes) then Err faults.TooLong else Ok bytes

-- what a read leaves: it changes nothing but counts
abbrev pub read_leaves : Bool → Option (List ℕ) → MemFiles → MemFiles
read_leaves true held f = record f { calls = counted f.calls; read_faults = counted f.read_faults }
read_leaves false None f = record f { calls = counted f.calls; absents = counted f.absents }
read_leaves false (Some bytes) f = record f { calls = counted f.calls }

-- it is the answer, or want of memory in place of bytes
abbrev pub IsAnswer : Result (List ℕ) ReadFault → Result (Vec ℕ) ReadFault → Type 0
IsAnswer answer (Ok bytes) = answer ≡ Ok bytes.items
IsAnswer answer (Err faults.Absent) = answer ≡ Err faults.Absent
IsAnswer answer (Err faults.Failed) = answer ≡ Err faults.Failed
IsAnswer answer (Err faults.TooLong) = answer ≡ Err faults.TooLong
IsAnswer answer (Err faults.Memory) = IsOk answer

-- a write or a put fails exactly where it is to; where it isn't, memory may run out
abbrev pub FailsWhere : Bool → Result (Unit {0}) WriteFault → Type 0
FailsWhere is_due (Ok done) = is_due ≡ false
FailsWhere is_due (Err write_faults.Failed) = is_due ≡ true
FailsWhere is_due (Err write_faults.Memory) = is_due ≡ false

-- what a write leaves, files apart
abbrev pub write_leaves : Bool → MemFiles → MemFiles
write_leaves fails f = record f { calls = counted f.calls; write_faults = counted_if fails f.write_faults }

-- ---- sinks

-- whether the next put fails
abbrev pub put_fails : MemSink → Bool
put_fails s = is_next_listed s.fail.items s.calls

-- what a put leaves, bytes apart
abbrev pub put_leaves : Bool → MemSink → MemSink
put_leaves fails s = record s { calls = counted s.calls; faults = counted_if fails s.faults }
