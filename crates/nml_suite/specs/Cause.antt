-- When each answer comes, and what was told with it.
use Rattle.std.specs.Prelude.{◌≡◌, ◌⊎◌, ℕ, suc, ◌+◌, ◌≤◌, List, ℤ, pos, Ok, Err, Option, Some, None, slice_get}
use Rattle.sha2.specs.Sha256.{sha256}
use Rattle.nk_outside.specs.Count.{Rose}
use Rattle.nk_outside.specs.Held.{Reads, Lacks, IsTooLong}
use Rattle.nk_outside.specs.Taken.{Took}
use Rattle.nml_tree.specs.declared.tree.Desc.{Desc}
use Rattle.nml_tree.specs.Table.{table}
use Rattle.nml_tree.specs.Machine.{Initial, RunOutcome, RunsImage, Stop, Running, Halted, Wanted, NoWord, BadWord}
use Rattle.nml_tree.specs.Valid.{IsWordWidth}
use Rattle.nml_tree.specs.declared.fault.DescFault.{DescFault}
use Rattle.nml_types.specs.Summary.{IsSummary}
use Rattle.image_file.specs.File.{Picture}
use Rattle.image_file.specs.Measured.{measures}
use Rattle.image_file.specs.Refused as image
use Rattle.image_file.specs.Valid.{IsImageOf}
use Rattle.image_file.specs.declared.fault.ImageFault.{ImageFault}
use Rattle.image_file.specs.declared.fault.ImageFault.TheVariants as image_faults
use Rattle.asm_text.specs.Answer.{IsAssembled}
use Rattle.asm_text.specs.Canonical.{IsCanonical}
use Rattle.asm_text.specs.Refused as source
use Rattle.asm_text.specs.declared.fault.AsmFault.{AsmFault}
use Rattle.asm_text.specs.declared.fault.AsmFault.TheVariants as source_faults
use Rattle.nml_target.specs.Target.{target}
use Rattle.nml_target.specs.declared.width.Lacking.{Lacking}
use Rattle.nk_base.specs.declared.number.Ty.TheVariants as ty
use Rattle.input_lines.specs.Input.{numbers}
use Rattle.input_port.specs.Port.{input_type}
use Rattle.nk_outside.specs.Outcome.{Outcome}
use Rattle.nk_outside.specs.declared.stop.Stop as outside
use Rattle.nk_outside.specs.declared.stop.Stop.TheVariants as ends
use Rattle.c_tree.specs.declared.program.CTree.{CTree}
use Rattle.c_tree.specs.declared.fault.CFault.{CFault}
use Rattle.c_tree.specs.Meaning.{outcome}
use Rattle.c_tree.specs.Resolve.{resolved}
use Rattle.nml_suite.specs.Answer.{Moment}
use Rattle.nml_suite.specs.Coming.{initials, made, picture}
use Rattle.nml_suite.specs.Described.{HasFault, IsAccepted}
use Rattle.nml_suite.specs.Programs.{HasProgramFault, IsProgram}
use Rattle.nml_suite.specs.Files.{Leaves}
use Rattle.nml_command.specs.Form.{Form, Check, Asm, Dis, Run, Cc, Ceval, Demo, named_to_read, named_to_write}
use Rattle.nml_reply.specs.Reading.{Reading, Absent, Failed, TooLong}
use Rattle.nml_reply.specs.Reply.{usage_line, unread, description_fault, text_fault, image_fault, not_built, accepted, bad_input, disassembled, told_run, no_target, program_fault, told_outcome}
use Rattle.nml_reply.specs.Told.{EndsIn}
use Rattle.nml_reply.specs.declared.status.Status.{Status}
use Rattle.nml_reply.specs.declared.status.Status.TheVariants as statuses

-- ---- a file that the words name

-- A file to be read gave no bytes: it stands at this place of those that the words name, and none behind it was called for.
pub record HasShortFile (before now : Moment) (form : Option Form) (reading : Reading) : Type 0 where
  pub name : List ℕ
  pub place : ℕ
  pub named : slice_get (named_to_read form) place ≡ Some name
  pub calls : now.store.counts.calls ≤ before.store.counts.calls + suc place
  pub told : Took before.taken now.taken (unread name reading).text

-- a file is absent: the text names it, and the count of absent names rose
pub record HasAbsentFile (before now : Moment) (form : Option Form) : Type 0 where
  pub file : HasShortFile before now form Absent
  pub lacks : Lacks before.store.held file.name
  pub rose : Rose before.store.counts.absents now.store.counts.absents

-- the read of a file failed: the text names it, and the count of read faults rose
pub record HasFailedFile (before now : Moment) (form : Option Form) : Type 0 where
  pub file : HasShortFile before now form Failed
  pub rose : Rose before.store.counts.read_faults now.store.counts.read_faults

-- a file is too long: the text names it
pub record HasLongFile (before now : Moment) (form : Option Form) : Type 0 where
  pub file : HasShortFile before now form TooLong
  pub long : IsTooLong before.store.held file.name

-- the file at this place of those that the words name was read, and has these bytes
pub record HasBytes (before : Moment) (form : Option Form) (place : ℕ) : Type 0 where
  pub name : List ℕ
  pub named : slice_get (named_to_read form) place ≡ Some name
  pub bytes : List ℕ
  pub read : Reads before.store.held name bytes

-- ---- the description, which is named first

-- its bytes have the fault that is told
pub record HasFaultyDescription (before now : Moment) (form : Option Form) : Type 0 where
  pub file : HasBytes before form 0
  pub fault : DescFault
  pub faulty : HasFault file.bytes fault
  pub told : Took before.taken now.taken (description_fault file.name fault).text

-- its bytes are accepted as this tree, and its words have so many bits
pub record HasDescription (before : Moment) (form : Option Form) : Type 0 where
  pub file : HasBytes before form 0
  pub tree : Desc
  pub is : IsAccepted file.bytes tree
  pub width : ℕ
  pub word_width : IsWordWidth (table tree) width

-- ---- which words they are

-- those of `asm`
abbrev pub IsAsm : Option Form → Type 0
IsAsm (Some (Asm d s i)) = Unit {0}
IsAsm _ = ⊥

-- those of `dis`
abbrev pub IsDis : Option Form → Type 0
IsDis (Some (Dis d i)) = Unit {0}
IsDis _ = ⊥

-- those of `run`, for this number of steps
abbrev pub IsRun : ℕ → Option Form → Type 0
IsRun steps (Some (Run d i x n)) = n ≡ steps
IsRun steps _ = ⊥

-- those of `check`
abbrev pub IsCheck : Option Form → Type 0
IsCheck (Some (Check d)) = Unit {0}
IsCheck _ = ⊥

-- those of `ceval`, for this number of turns
abbrev pub IsCeval : ℕ → Option Form → Type 0
IsCeval turns (Some (Ceval d c x n)) = n ≡ turns
IsCeval turns _ = ⊥

-- those of a command that reads an image
abbrev pub IsOfImage : Option Form → Type 0
IsOfImage (Some (Dis d i)) = Unit {0}
IsOfImage (Some (Run d i x n)) = Unit {0}
IsOfImage _ = ⊥

-- those of a command that isn't built
abbrev pub IsOther : Option Form → Type 0
IsOther (Some (Cc d c i)) = Unit {0}
IsOther (Some (Demo k)) = Unit {0}
IsOther _ = ⊥

-- ---- `check`

-- the description is accepted, and what is told are the number of its shapes and the bits of its words
pub record HasSummary (before now : Moment) (form : Option Form) : Type 0 where
  pub check : IsCheck form
  pub file : HasBytes before form 0
  pub tree : Desc
  pub is : IsAccepted file.bytes tree
  pub count : ℕ
  pub width : ℕ
  pub summary : IsSummary (table tree) count width
  pub told : Took before.taken now.taken (accepted count width).text

-- ---- `asm`

-- the description of `asm` and its text were read
pub record HasText (before : Moment) (form : Option Form) : Type 0 where
  pub asm : IsAsm form
  pub description : HasDescription before form
  pub text : HasBytes before form 1

-- the text has the fault that is told
pub record HasFaultyText (before now : Moment) (form : Option Form) : Type 0 where
  pub files : HasText before form
  pub fault : AsmFault
  pub some : fault ≡ source_faults.Memory → ⊥
  pub faulty : source.IsRefused (table files.description.tree) files.description.width files.text.bytes fault
  pub told : Took before.taken now.taken (text_fault files.text.name fault).text

-- The text was assembled to these words and initial values, their image was written, and the words are told. Any canonical text of them is
-- assembled to just these.
pub record HasWords (before now : Moment) (form : Option Form) : Type 0 where
  pub files : HasText before form
  pub words : List ℕ
  pub inits : List Initial
  pub assembles : IsAssembled (table files.description.tree) files.description.width files.text.bytes words inits
  pub image : List ℕ
  pub named : named_to_write form ≡ Some image
  pub saved : Leaves before.store now.store (made image (picture files.description.file.bytes files.description.width words inits)).file
  pub told : Took before.taken now.taken (made image (picture files.description.file.bytes files.description.width words inits)).reply.text
  pub round_trip : (text : List ℕ) → IsCanonical (table files.description.tree) files.description.width words inits text
      → IsAssembled (table files.description.tree) files.description.width text words inits

-- ---- images

-- the description of `dis` or `run` and its image file were read
pub record HasImageFile (before : Moment) (form : Option Form) : Type 0 where
  pub of_image : IsOfImage form
  pub description : HasDescription before form
  pub image : HasBytes before form 1

-- the image file has the fault that is told
pub record HasFaultyImage (before now : Moment) (form : Option Form) : Type 0 where
  pub files : HasImageFile before form
  pub fault : ImageFault
  pub some : fault ≡ image_faults.Memory → ⊥
  pub faulty : image.IsRefused (measures (table files.description.tree) files.description.width) (sha256 files.description.file.bytes) files.image.bytes fault
  pub told : Took before.taken now.taken (image_fault files.image.name fault).text

-- it is this image
pub record HasImage (before : Moment) (form : Option Form) : Type 0 where
  pub files : HasImageFile before form
  pub picture : Picture
  pub is : IsImageOf (measures (table files.description.tree) files.description.width) (sha256 files.description.file.bytes) files.image.bytes picture

-- ---- `dis`

-- The canonical text of the image is told, which is assembled to the words and the initial values of the image.
pub record HasCanonical (before now : Moment) (form : Option Form) : Type 0 where
  pub dis : IsDis form
  pub loaded : HasImage before form
  pub text : List ℕ
  pub canonical : IsCanonical (table loaded.files.description.tree) loaded.files.description.width loaded.picture.words (initials loaded.picture) text
  pub told : Took before.taken now.taken (disassembled text).text
  pub round_trip : IsAssembled (table loaded.files.description.tree) loaded.files.description.width text loaded.picture.words (initials loaded.picture)

-- ---- `run`

-- the image of `run` is found, and its input was read
pub record HasMachine (before : Moment) (form : Option Form) : Type 0 where
  pub steps : ℕ
  pub run : IsRun steps form
  pub loaded : HasImage before form
  pub input : HasBytes before form 2

-- what is told names the first line of the input that isn't blank and isn't a number that is wanted
pub record HasBadInput (before now : Moment) (form : Option Form) : Type 0 where
  pub machine : HasMachine before form
  pub line : ℕ
  pub bad : numbers (input_type (table machine.loaded.files.description.tree)) machine.input.bytes ≡ Err line
  pub told : Took before.taken now.taken (bad_input machine.input.name line).text

-- The input is numbers; the run of the image on them, at most so many steps long, stops so and is told.
pub record HasRun (before now : Moment) (form : Option Form) (stops : Stop → Type 0) : Type 0 where
  pub machine : HasMachine before form
  pub found : List ℤ
  pub is : numbers (input_type (table machine.loaded.files.description.tree)) machine.input.bytes ≡ Ok found
  pub run : RunOutcome
  pub runs : RunsImage (table machine.loaded.files.description.tree) machine.loaded.picture.words (initials machine.loaded.picture) found machine.steps run
  pub stop : stops run.stop
  pub told : Took before.taken now.taken (told_run run).text

abbrev pub IsNoWordStop : Stop → Type 0
IsNoWordStop s = (place : ℕ) × (s ≡ NoWord place)

abbrev pub IsBadWordStop : Stop → Type 0
IsBadWordStop s = (place : ℕ) × (s ≡ BadWord place)

-- a halt with a code other than 0
abbrev pub IsOtherHalt : Stop → Type 0
IsOtherHalt s = (code : ℤ) × (s ≡ Halted code) × (code ≡ pos 0 → ⊥)

-- ---- `ceval`

-- the description of `ceval` was read and is accepted
pub record HasTree (before : Moment) (form : Option Form) : Type 0 where
  pub turns : ℕ
  pub ceval : IsCeval turns form
  pub file : HasBytes before form 0
  pub tree : Desc
  pub is : IsAccepted file.bytes tree

-- it lacks what is told
pub record HasNoTarget (before now : Moment) (form : Option Form) : Type 0 where
  pub description : HasTree before form
  pub what : Lacking
  pub lacks : target description.tree ≡ Err what
  pub told : Took before.taken now.taken (no_target description.file.name what).text

-- its numbers have so many bits, and the program was read
pub record HasSource (before : Moment) (form : Option Form) : Type 0 where
  pub description : HasTree before form
  pub bits : ℕ
  pub target_is : target description.tree ≡ Ok bits
  pub source : HasBytes before form 1

-- the program has the fault that is told
pub record HasFaultyProgram (before now : Moment) (form : Option Form) : Type 0 where
  pub files : HasSource before form
  pub fault : CFault
  pub faulty : HasProgramFault files.source.bytes files.bits fault
  pub told : Took before.taken now.taken (program_fault files.source.name fault).text

-- the program is accepted, and the input was read
pub record HasProgram (before : Moment) (form : Option Form) : Type 0 where
  pub files : HasSource before form
  pub program : CTree
  pub is : IsProgram files.source.bytes files.bits program
  pub input : HasBytes before form 2

-- what is told names the first line of the input that isn't blank and isn't a number that is wanted
pub record HasBadNumber (before now : Moment) (form : Option Form) : Type 0 where
  pub files : HasProgram before form
  pub line : ℕ
  pub bad : numbers (Some (ty.Int files.files.bits)) files.input.bytes ≡ Err line
  pub told : Took before.taken now.taken (bad_input files.input.name line).text

-- what the program comes to on these numbers
abbrev pub outcome_of : (before : Moment) (form : Option Form) → HasProgram before form → List ℤ → Outcome
outcome_of before form files found = outcome (resolved files.program) files.files.bits found files.files.description.turns

-- The input is numbers; the run of the program on them, for at most so many turns, stops so and is told.
pub record HasOutcome (before now : Moment) (form : Option Form) (stops : outside.Stop → Type 0) : Type 0 where
  pub files : HasProgram before form
  pub found : List ℤ
  pub is : numbers (Some (ty.Int files.files.bits)) files.input.bytes ≡ Ok found
  pub stop : stops (outcome_of before form files found).stop
  pub told : Took before.taken now.taken (told_outcome (outcome_of before form files found)).text

-- a run that came to its end, or met the trap 0
abbrev pub IsEnded : outside.Stop → Type 0
IsEnded s = (s ≡ ends.Ended) ⊎ (s ≡ ends.Trap 0)

-- a run that met another trap
abbrev pub IsOtherTrap : outside.Stop → Type 0
IsOtherTrap s = (code : ℕ) × (s ≡ ends.Trap (suc code))

-- ---- each status

-- the command isn't built
pub record IsNotBuilt (before now : Moment) (form : Option Form) : Type 0 where
  pub other : IsOther form
  pub told : Took before.taken now.taken not_built.text

-- The cause of an answer, and what was told. Want of memory has none; the status with none at all doesn't come.
abbrev pub HasCause : Moment → Moment → Option Form → Status → Type 0
HasCause before now form statuses.Usage = (form ≡ None) × Took before.taken now.taken usage_line
HasCause before now form statuses.Read = HasAbsentFile before now form ⊎ HasFailedFile before now form
HasCause before now form statuses.TooLong = HasLongFile before now form
HasCause before now form statuses.NotBuilt = IsNotBuilt before now form
HasCause before now form statuses.Description = HasFaultyDescription before now form
HasCause before now form statuses.Source = HasFaultyText before now form ⊎ HasFaultyProgram before now form
HasCause before now form statuses.Image = HasFaultyImage before now form
HasCause before now form statuses.Input = HasBadInput before now form ⊎ HasBadNumber before now form
HasCause before now form statuses.Done =
    HasWords before now form
    ⊎ (HasCanonical before now form
    ⊎ (HasRun before now form (λ s. s ≡ Halted (pos 0)) ⊎ (HasSummary before now form ⊎ HasOutcome before now form IsEnded)))
HasCause before now form statuses.Stopped = HasRun before now form IsOtherHalt ⊎ HasOutcome before now form IsOtherTrap
HasCause before now form statuses.Budget = HasRun before now form (λ s. s ≡ Running) ⊎ HasOutcome before now form (λ s. s ≡ ends.Running)
HasCause before now form statuses.Wants = HasRun before now form (λ s. s ≡ Wanted) ⊎ HasOutcome before now form (λ s. s ≡ ends.Wants)
HasCause before now form statuses.NoWord = HasRun before now form IsNoWordStop
HasCause before now form statuses.BadWord = HasRun before now form IsBadWordStop
HasCause before now form statuses.Write = Rose before.faults now.faults ⊎ Rose before.store.counts.write_faults now.store.counts.write_faults
HasCause before now form statuses.Memory = Unit {0}
HasCause before now form statuses.NotClosed = HasNoTarget before now form
HasCause before now form statuses.Words = ⊥

-- words of no form are answered so, but for a failed put and want of memory
abbrev pub IsUsage : Option Form → Status → Type 0
IsUsage form status = form ≡ None → EndsIn statuses.Usage status
