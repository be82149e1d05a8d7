-- How the commands compose: what `run` and `dis` do with the image that `asm` wrote, and what `asm` makes of what `dis` told.
use Rattle.std.specs.Prelude.{◌≡◌, ℕ, List, [], ◌∷◌, Some}
use Rattle.nml_tree.specs.declared.tree.Desc.{Desc}
use Rattle.nml_tree.specs.Table.{table}
use Rattle.nml_tree.specs.Machine.{Initial}
use Rattle.nml_tree.specs.Valid.{IsWordWidth}
use Rattle.asm_text.specs.Answer.{IsAssembled}
use Rattle.asm_text.specs.Canonical.{IsCanonical}
use Rattle.nml_reply.specs.Reply.{disassembled}
use Rattle.nml_reply.specs.Reading.{Got}
use Rattle.nml_suite.specs.Coming.{AsmComesTo, DisComesTo, RunComesTo, RunsTo, picture}
use Rattle.nml_suite.specs.Described.{IsAccepted}
use Rattle.nml_suite.specs.Work.{Work, Written, telling}
use Rattle.nml_suite.specs.Reading.{Asked}

-- what is asked for, where a description has these bytes and a second file those
abbrev pub two_files : (description bytes other text : List ℕ) → List Asked
two_files description bytes other text = (description, Got bytes) ∷ (other, Got text) ∷ []

-- from these bytes of a description and of a text `asm` makes this file, whatever the names
pub record Makes (bytes text : List ℕ) (file : Written) : Type 0 where
  pub description : List ℕ
  pub source : List ℕ
  pub image : List ℕ
  pub work : Work
  pub comes : AsmComesTo description source image (two_files description bytes source text) work
  pub wrote : work.file ≡ Some file

-- the words and the initial values of a text, for the machine that the description's bytes spell
pub record IsProgramOf (bytes text : List ℕ) : Type 0 where
  pub tree : Desc
  pub is : IsAccepted bytes tree
  pub width : ℕ
  pub word_width : IsWordWidth (table tree) width
  pub words : List ℕ
  pub inits : List Initial
  pub assembles : IsAssembled (table tree) width text words inits

-- what `run` comes to, with the image under this name and an input of these bytes
abbrev pub RunsFile : (d i x bytes entry : List ℕ) (steps : ℕ) (file : Written) → Work → Type 0
RunsFile d i x bytes entry steps file = RunComesTo d i x steps ((d, Got bytes) ∷ (i, Got file.bytes) ∷ (x, Got entry) ∷ [])

-- what is told is the run of the words and the initial values of the text on the input
pub record RunsText (x bytes text entry : List ℕ) (steps : ℕ) (w : Work) : Type 0 where
  pub program : IsProgramOf bytes text
  pub runs : RunsTo x steps (table program.tree) (picture bytes program.width program.words program.inits) entry [] w

-- what is told is the canonical text of the words and the initial values of the text
pub record ShowsText (bytes text : List ℕ) (w : Work) : Type 0 where
  pub program : IsProgramOf bytes text
  pub shown : List ℕ
  pub canonical : IsCanonical (table program.tree) program.width program.words program.inits shown
  pub is : w ≡ telling (disassembled shown)

-- what `dis` comes to, with the image under this name
abbrev pub ShowsFile : (d i bytes : List ℕ) (file : Written) → Work → Type 0
ShowsFile d i bytes file = DisComesTo d i (two_files d bytes i file.bytes)

-- what `asm` comes to, with this text under this name, the image's name being the last
abbrev pub AssemblesFile : (d s i bytes text : List ℕ) → Work → Type 0
AssemblesFile d s i bytes text = AsmComesTo d s i (two_files d bytes s text)
