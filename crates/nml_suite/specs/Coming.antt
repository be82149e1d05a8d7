-- What a call comes to, by the words and what each read answered: the files in the order of the words, each with its own refusals.
-- Each step takes what was asked for, in order, and goes on with the rest of it; at the end nothing more is asked for.
use Rattle.std.specs.Prelude.{◌≡◌, ℕ, List, [], ◌∷◌, map, ℤ, Ok, Err, Option, Some, None}
use Rattle.sha2.specs.Sha256.{sha256}
use Rattle.nml_tree.specs.declared.tree.Desc.{Desc}
use Rattle.nml_tree.specs.Table.{Table, table}
use Rattle.nml_tree.specs.Machine.{Initial, RunOutcome, RunsImage}
use Rattle.nml_tree.specs.Valid.{IsWordWidth}
use Rattle.nml_tree.specs.declared.fault.DescFault.{DescFault}
use Rattle.nml_types.specs.Summary.{IsSummary}
use Rattle.image_file.specs.File.{Picture, file}
use Rattle.image_file.specs.Measured.{measures, stored, initial}
use Rattle.image_file.specs.Refused as image
use Rattle.image_file.specs.Valid.{IsImageOf}
use Rattle.image_file.specs.declared.fault.ImageFault.{ImageFault}
use Rattle.image_file.specs.declared.fault.ImageFault.TheVariants as image_faults
use Rattle.asm_text.specs.Answer.{IsAssembled}
use Rattle.asm_text.specs.Canonical.{IsCanonical}
use Rattle.asm_text.specs.Refused as source
use Rattle.asm_text.specs.declared.fault.AsmFault.{AsmFault}
use Rattle.asm_text.specs.declared.fault.AsmFault.TheVariants as source_faults
use Rattle.nml_target.specs.Target.{target}
use Rattle.nml_target.specs.declared.width.Lacking.{Lacking}
use Rattle.nk_base.specs.declared.number.Ty.TheVariants as ty
use Rattle.input_lines.specs.Input.{numbers}
use Rattle.input_port.specs.Port.{input_type}
use Rattle.c_tree.specs.declared.program.CTree.{CTree}
use Rattle.c_tree.specs.declared.fault.CFault.{CFault}
use Rattle.c_tree.specs.Meaning.{outcome}
use Rattle.c_tree.specs.Resolve.{resolved}
use Rattle.nml_suite.specs.Described.{HasFault, IsAccepted}
use Rattle.nml_suite.specs.Programs.{HasProgramFault, IsProgram}
use Rattle.nml_command.specs.Form.{Form, Check, Asm, Dis, Run, Cc, Ceval, Demo}
use Rattle.nml_reply.specs.Reading.{Reading, Got}
use Rattle.nml_reply.specs.Reply.{Reply, reply, unread, usage_line, description_fault, text_fault, image_fault, not_built, accepted, bad_input, assembled, disassembled, told_run, no_target, program_fault, told_outcome}
use Rattle.nml_reply.specs.declared.status.Status.TheVariants as statuses
use Rattle.nml_suite.specs.Reading.{Asked, IsShort}
use Rattle.nml_suite.specs.Work.{Work, Written, telling}

-- ---- the steps of a command

-- nothing more is asked for, no file is written, and this is told
pub record EndsWith (told : Reply) (asked : List Asked) (work : Work) : Type 0 where
  pub last : asked ≡ []
  pub is : work ≡ telling told

-- A file is read: where it gives no bytes the call ends with that, else it goes on with them.
pub data Opens (name : List ℕ) (goes : List ℕ → List Asked → Work → Type 0) (asked : List Asked) (work : Work) : Type 0 where
  Short : (reading : Reading) → asked ≡ (name, reading) ∷ [] → IsShort reading → work ≡ telling (unread name reading) → Opens name goes asked work
  Opened : (bytes : List ℕ) (more : List Asked) → asked ≡ (name, Got bytes) ∷ more → goes bytes more work → Opens name goes asked work

-- Bytes are looked at as a description: where they have a fault the call ends with that, else it goes on with the tree.
pub data Accepts (name bytes : List ℕ) (goes : Desc → List Asked → Work → Type 0) (asked : List Asked) (work : Work) : Type 0 where
  Faulty : (fault : DescFault) → HasFault bytes fault → EndsWith (description_fault name fault) asked work → Accepts name bytes goes asked work
  Accepted : (tree : Desc) → IsAccepted bytes tree → goes tree asked work → Accepts name bytes goes asked work

-- An accepted description is looked at as a machine: the call goes on with how many bits its words have.
pub data Sizes (tree : Desc) (goes : ℕ → List Asked → Work → Type 0) (asked : List Asked) (work : Work) : Type 0 where
  Sized : (width : ℕ) → IsWordWidth (table tree) width → goes width asked work → Sizes tree goes asked work

-- ---- `check`

-- what `check` comes to on a tree that is accepted
pub data SumsUp (tree : Desc) (asked : List Asked) (work : Work) : Type 0 where
  Summed : (count width : ℕ) → IsSummary (table tree) count width → EndsWith (accepted count width) asked work → SumsUp tree asked work

-- what `check` comes to
abbrev pub CheckComesTo : List ℕ → List Asked → Work → Type 0
CheckComesTo description = Opens description (λ bytes. Accepts description bytes SumsUp)

-- ---- `asm`

-- the image of a text's words and initial values: it carries the digest of the description's bytes
abbrev pub picture : List ℕ → ℕ → List ℕ → List Initial → Picture
picture bytes width words inits = record { digest = sha256 bytes; width = width; words = words; inits = map stored inits }

-- the image's file
abbrev pub written_image : List ℕ → Picture → Written
written_image name i = record { name = name; bytes = file i }

-- what an image that was assembled comes to
abbrev pub made : List ℕ → Picture → Work
made name i = record { file = Some (written_image name i); reply = assembled i.width i.words }

-- What `asm` comes to on a description, which these bytes are and whose words have so many bits, and the bytes of a text.
pub data AssemblesTo (name image bytes : List ℕ) (t : Table) (width : ℕ) (text : List ℕ) (asked : List Asked) (work : Work) : Type 0 where
  FaultyText : (fault : AsmFault) → (fault ≡ source_faults.Memory → ⊥) → source.IsRefused t width text fault → EndsWith (text_fault name fault) asked work
      → AssemblesTo name image bytes t width text asked work
  Words : (words : List ℕ) (inits : List Initial) → IsAssembled t width text words inits → asked ≡ [] → work ≡ made image (picture bytes width words inits)
      → AssemblesTo name image bytes t width text asked work

-- what `asm` comes to: the description first, then the text
abbrev pub AsmComesTo : List ℕ → List ℕ → List ℕ → List Asked → Work → Type 0
AsmComesTo description text image =
    Opens description
    (λ bytes. Accepts description bytes
    (λ tree. Sizes tree
    (λ width. Opens text (AssemblesTo text image bytes (table tree) width))))

-- ---- images

-- Bits are looked at as an image of a description, which these bytes are: where they have a fault the call ends with that, else it goes on
-- with the image.
pub data Loads (name bytes : List ℕ) (t : Table) (width : ℕ) (bits : List ℕ) (goes : Picture → List Asked → Work → Type 0) (asked : List Asked) (work : Work) : Type 0 where
  FaultyImage : (fault : ImageFault) → (fault ≡ image_faults.Memory → ⊥) → image.IsRefused (measures t width) (sha256 bytes) bits fault
      → EndsWith (image_fault name fault) asked work → Loads name bytes t width bits goes asked work
  Loaded : (i : Picture) → IsImageOf (measures t width) (sha256 bytes) bits i → goes i asked work → Loads name bytes t width bits goes asked work

-- the initial values of an image
abbrev pub initials : Picture → List Initial
initials i = map initial i.inits

-- ---- `dis`

-- what `dis` comes to on an image
pub data DisassemblesTo (t : Table) (width : ℕ) (i : Picture) (asked : List Asked) (work : Work) : Type 0 where
  Shown : (text : List ℕ) → IsCanonical t width i.words (initials i) text → EndsWith (disassembled text) asked work → DisassemblesTo t width i asked work

-- what `dis` comes to: the description first, then the image
abbrev pub DisComesTo : List ℕ → List ℕ → List Asked → Work → Type 0
DisComesTo description image =
    Opens description
    (λ bytes. Accepts description bytes
    (λ tree. Sizes tree
    (λ width. Opens image
    (λ bits. Loads image bytes (table tree) width bits (DisassemblesTo (table tree) width)))))

-- ---- `run`

-- What `run` comes to on an image and the bytes of an input: the run of the image's words and initial values on the numbers of the input, for
-- at most so many steps.
pub data RunsTo (input : List ℕ) (steps : ℕ) (t : Table) (i : Picture) (text : List ℕ) (asked : List Asked) (work : Work) : Type 0 where
  Input : (line : ℕ) → numbers (input_type t) text ≡ Err line → EndsWith (bad_input input line) asked work → RunsTo input steps t i text asked work
  Ran : (found : List ℤ) → numbers (input_type t) text ≡ Ok found → (r : RunOutcome) → RunsImage t i.words (initials i) found steps r → EndsWith (told_run r) asked work
      → RunsTo input steps t i text asked work

-- what `run` comes to: the description first, then the image, then the input
abbrev pub RunComesTo : List ℕ → List ℕ → List ℕ → ℕ → List Asked → Work → Type 0
RunComesTo description image input steps =
    Opens description
    (λ bytes. Accepts description bytes
    (λ tree. Sizes tree
    (λ width. Opens image
    (λ bits. Loads image bytes (table tree) width bits
    (λ i. Opens input (RunsTo input steps (table tree) i))))))

-- ---- `ceval`

-- A description is looked at as a machine for programs: where it lacks something the call ends with that, else it goes on with the bits of its
-- numbers.
pub data Targets (name : List ℕ) (tree : Desc) (goes : ℕ → List Asked → Work → Type 0) (asked : List Asked) (work : Work) : Type 0 where
  NoTarget : (what : Lacking) → target tree ≡ Err what → EndsWith (no_target name what) asked work → Targets name tree goes asked work
  Targeted : (n : ℕ) → target tree ≡ Ok n → goes n asked work → Targets name tree goes asked work

-- Bytes are looked at as a program whose numbers have n bits: where they have a fault the call ends with that, else it goes on with the program.
pub data Compiles (name bytes : List ℕ) (n : ℕ) (goes : CTree → List Asked → Work → Type 0) (asked : List Asked) (work : Work) : Type 0 where
  FaultyProgram : (fault : CFault) → HasProgramFault bytes n fault → EndsWith (program_fault name fault) asked work → Compiles name bytes n goes asked work
  SoundProgram : (tree : CTree) → IsProgram bytes n tree → goes tree asked work → Compiles name bytes n goes asked work

-- What `ceval` comes to on a program whose numbers have n bits, and the bytes of an input: its run on the numbers of that, for at most so many turns.
pub data EvaluatesTo (input : List ℕ) (turns n : ℕ) (tree : CTree) (text : List ℕ) (asked : List Asked) (work : Work) : Type 0 where
  BadNumber : (line : ℕ) → numbers (Some (ty.Int n)) text ≡ Err line → EndsWith (bad_input input line) asked work → EvaluatesTo input turns n tree text asked work
  Evaluated : (found : List ℤ) → numbers (Some (ty.Int n)) text ≡ Ok found → EndsWith (told_outcome (outcome (resolved tree) n found turns)) asked work
      → EvaluatesTo input turns n tree text asked work

-- what `ceval` comes to: the description first, then the program, then the input
abbrev pub CevalComesTo : List ℕ → List ℕ → List ℕ → ℕ → List Asked → Work → Type 0
CevalComesTo description source input turns =
    Opens description
    (λ bytes. Accepts description bytes
    (λ tree. Targets description tree
    (λ n. Opens source
    (λ text. Compiles source text n
    (λ program. Opens input (EvaluatesTo input turns n program))))))

-- ---- any words

-- What the words come to, by what was asked for and answered. Want of memory has no part in it.
abbrev pub ComesTo : Option Form → List Asked → Work → Type 0
ComesTo None = EndsWith (reply statuses.Usage usage_line)
ComesTo (Some (Check d)) = CheckComesTo d
ComesTo (Some (Asm d s i)) = AsmComesTo d s i
ComesTo (Some (Dis d i)) = DisComesTo d i
ComesTo (Some (Run d i x n)) = RunComesTo d i x n
ComesTo (Some (Ceval d c x n)) = CevalComesTo d c x n
ComesTo (Some (Cc d c i)) = EndsWith not_built
ComesTo (Some (Demo k)) = EndsWith not_built
