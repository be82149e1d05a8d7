-- For private contracts: what a step of a command refuses, and what the reading of its files comes to.
use Rattle.std.specs.Prelude.{◌≡◌, ◌⊎◌, ℕ, List, [], ◌∷◌, ◌++◌, ℤ, ◌≤◌, Option, Some, Result, Ok, Err}
use Rattle.std.specs.Global.{Vec}
use Rattle.sha2.specs.Sha256.{sha256}
use Rattle.nk_base.specs.declared.number.Ty.{Ty}
use Rattle.nml_tree.specs.declared.tree.Desc.{Desc}
use Rattle.nml_tree.specs.declared.fault.DescFault.{DescFault}
use Rattle.nml_tree.specs.Machine.{RunOutcome, RunsImage}
use Rattle.nml_tree.specs.Refused.{IsChecked}
use Rattle.nml_tree.specs.Table.{Table, table}
use Rattle.nml_refusals.specs.TreeFault.{IsTreeFault}
use Rattle.image_file.specs.File.{Picture, HasFile, file}
use Rattle.image_file.specs.Measured.{measures}
use Rattle.image_file.specs.Refused as image
use Rattle.image_file.specs.Seen.{picture_of, measures_of}
use Rattle.image_file.specs.Valid.{IsImageOf}
use Rattle.image_file.specs.declared.fault.ImageFault.{ImageFault}
use Rattle.image_file.specs.declared.fault.ImageFault.TheVariants as image_faults
use Rattle.image_file.specs.declared.image.Image.{Image}
use Rattle.image_file.specs.declared.layout.Layout.{Layout}
use Rattle.isg_graph.specs.Graph.{Graph, IsGraph}
use Rattle.asm_text.specs.Canonical.{IsCanonical}
use Rattle.asm_text.specs.Refused as source
use Rattle.asm_text.specs.declared.fault.AsmFault.{AsmFault}
use Rattle.asm_text.specs.declared.fault.AsmFault.TheVariants as source_faults
use Rattle.asm_tool.specs.Made.{IsImageOfText}
use Rattle.nk_outside.specs.Count.{Rose}
use Rattle.nk_outside.specs.Held.{SameElsewhere}
use Rattle.nml_suite.specs.Answer.{AreNamed}
use Rattle.nml_suite.specs.Coming.{EndsWith, RunComesTo, initials}
use Rattle.nml_types.specs.Summary.{IsSummary}
use Rattle.nml_types.specs.declared.checking.Summary.{Summary}
use Rattle.nml_target.specs.Target.{target}
use Rattle.nml_target.specs.declared.width.Lacking.{Lacking}
use Rattle.input_lines.specs.Input.{numbers}
use Rattle.input_port.specs.Port.{input_type}
use Rattle.c_tree.specs.declared.program.CTree.{CTree}
use Rattle.c_tree.specs.declared.fault.CFault.{CFault}
use Rattle.c_tree.specs.declared.fault.CFault.TheVariants as program_faults
use Rattle.c_tree.specs.Accepted.{IsAcceptedTree, IsTreeFaultOf}
use Rattle.c_tree.specs.Meaning.{outcome}
use Rattle.c_tree.specs.Resolve.{resolved}
use Rattle.c_grammar.specs.Trees.{IsTree}
use Rattle.nml_reply.specs.Reading.{Reading, Got}
use Rattle.nml_reply.specs.Refusals.{refused, Wants}
use Rattle.nml_reply.specs.Reply.{Reply, starved, unread, write_failed, description_fault, text_fault, image_fault, accepted, bad_input, assembled, disassembled, told_run, no_target, program_fault, told_outcome}
use Rattle.nml_reply.specs.declared.refusal.Refusal.{Refusal}
use Rattle.nml_suite.specs.Programs.{HasProgramFault, IsProgram}
use Rattle.nml_suite.specs.declared.ceval.Prepared.{Prepared}
use Rattle.nml_suite.specs.Described.{HasFault, Spells, IsAccepted}
use Rattle.nml_suite.specs.Reading.{Store, IsShort, Asked, IsRead, AreRead}
use Rattle.nml_suite.specs.Work.{Work, Written, telling, IsWriteCall, HasWritten}
use Rattle.nml_suite.specs.declared.assemble.Assembled.{Assembled}
use Rattle.nml_suite.specs.declared.ready.Ready.{Ready}

-- ---- a row of reads, and what it comes to

-- The files were read, and come to this; or memory was wanted.
pub record Settles (before now : Store) (names : List (List ℕ)) (comes : List Asked → Work → Type 0) (work : Work) : Type 0 where
  pub asked : List Asked
  pub reads : AreRead before now asked
  pub named : AreNamed asked names
  pub is : comes asked work ⊎ (work ≡ telling starved)

-- The first of the files were read; what the rest of them comes to, the whole comes to.
pub record Arrives (before now : Store) (names rest : List (List ℕ)) (comes goes : List Asked → Work → Type 0) : Type 0 where
  pub asked : List Asked
  pub reads : AreRead before now asked
  pub named : (more : List Asked) → AreNamed more rest → AreNamed (asked ++ more) names
  pub leads : (more : List Asked) (work : Work) → goes more work → comes (asked ++ more) work

-- ---- one file

-- the read of this name gave no bytes, or memory was wanted for it
pub record IsUnread (before now : Store) (name : List ℕ) (told : Reply) : Type 0 where
  pub reading : Reading
  pub read : IsRead before now name reading
  pub is : (IsShort reading × (told ≡ unread name reading)) ⊎ (told ≡ starved)

-- the file was read, or it gave no bytes
abbrev pub IsLoaded : Store → Store → List ℕ → Result (Vec ℕ) Refusal → Type 0
IsLoaded before now name (Ok bytes) = IsRead before now name (Got bytes.items)
IsLoaded before now name (Err refusal) = IsUnread before now name (refused refusal)

-- ---- the description

-- the bytes of this name have a fault
pub record IsFaulty (name bytes : List ℕ) (told : Reply) : Type 0 where
  pub fault : DescFault
  pub faulty : HasFault bytes fault
  pub is : told ≡ description_fault name fault

-- the bytes spell a tree, or they have a fault, or memory was wanted
abbrev pub IsSpelledAs : List ℕ → List ℕ → Result Desc Refusal → Type 0
IsSpelledAs name bytes (Ok tree) = Spells bytes tree
IsSpelledAs name bytes (Err refusal) = Wants refusal ⊎ IsFaulty name bytes (refused refusal)

-- the tree has a fault, which is told
pub record IsRefusedTree (name : List ℕ) (tree : Desc) (told : Reply) : Type 0 where
  pub fault : DescFault
  pub faulty : IsTreeFault tree fault
  pub is : told ≡ description_fault name fault

-- the tree is right, or it has a fault, or memory was wanted
abbrev pub IsCheckedAs : List ℕ → Desc → Result Desc Refusal → Type 0
IsCheckedAs name tree (Ok t) = (t ≡ tree) × IsChecked tree
IsCheckedAs name tree (Err refusal) = Wants refusal ⊎ IsRefusedTree name tree (refused refusal)

-- the bytes are accepted, or they have a fault, or memory was wanted
abbrev pub IsReadAs : List ℕ → List ℕ → Result Desc Refusal → Type 0
IsReadAs name bytes (Ok tree) = IsAccepted bytes tree
IsReadAs name bytes (Err refusal) = Wants refusal ⊎ IsFaulty name bytes (refused refusal)

-- it is the graph of the tree, or memory was wanted
abbrev pub IsBuiltOf : Desc → Result Graph Refusal → Type 0
IsBuiltOf tree (Ok g) = (g.desc ≡ tree) × IsGraph g
IsBuiltOf tree (Err refusal) = Wants refusal

-- it is the graph of the tree that the bytes are accepted as, or they have a fault, or memory was wanted
abbrev pub IsGraphOf : List ℕ → List ℕ → Result Graph Refusal → Type 0
IsGraphOf name bytes (Ok g) = IsAccepted bytes g.desc × IsGraph g
IsGraphOf name bytes (Err refusal) = Wants refusal ⊎ IsFaulty name bytes (refused refusal)

-- ---- `check`

-- this is the summary, or memory was wanted
abbrev pub IsSummedUp : Desc → Result Summary Refusal → Type 0
IsSummedUp tree (Ok s) = IsSummary (table tree) s.count s.width
IsSummedUp tree (Err refusal) = Wants refusal

-- what is told of a summary or a refusal
abbrev pub summed : Result Summary Refusal → Work
summed (Ok s) = telling (accepted s.count s.width)
summed (Err refusal) = telling (refused refusal)

-- ---- `asm`

-- the file that was made, under a name
abbrev pub file_named : List ℕ → Vec ℕ → Written
file_named name bytes = record { name = name; bytes = bytes.items }

-- the text has a fault, which is told
pub record IsFaultyText (g : Graph) (name text : List ℕ) (told : Reply) : Type 0 where
  pub fault : AsmFault
  pub some : fault ≡ source_faults.Memory → ⊥
  pub faulty : source.IsRefused (table g.desc) g.word_bits text fault
  pub is : told ≡ text_fault name fault

-- this is the image of the text, or the text has a fault, or memory was wanted
abbrev pub IsMadeOfText : List ℕ → Graph → List ℕ → List ℕ → Result Image Refusal → Type 0
IsMadeOfText bytes g name text (Ok i) = IsImageOfText g (sha256 bytes) text (picture_of i)
IsMadeOfText bytes g name text (Err refusal) = Wants refusal ⊎ IsFaultyText g name text (refused refusal)

-- with its file, or memory was wanted
abbrev pub HasBytes : Image → Result Assembled Refusal → Type 0
HasBytes i (Ok all) = (picture_of all.image ≡ picture_of i) × (all.file.items ≡ file (picture_of i))
HasBytes i (Err refusal) = Wants refusal

-- the text of this name was assembled to this image and its file, or it has a fault, or memory was wanted
abbrev pub IsAssembledText : List ℕ → Graph → List ℕ → List ℕ → Result Assembled Refusal → Type 0
IsAssembledText bytes g name text (Ok all) = IsImageOfText g (sha256 bytes) text (picture_of all.image) × (all.file.items ≡ file (picture_of all.image))
IsAssembledText bytes g name text (Err refusal) = Wants refusal ⊎ IsFaultyText g name text (refused refusal)

-- what comes of the image or a refusal
abbrev pub settled : List ℕ → Result Assembled Refusal → Work
settled image (Ok all) = record { file = Some (file_named image all.file); reply = assembled all.image.width all.image.words.items }
settled image (Err refusal) = telling (refused refusal)

-- the file was written; or its write failed; or memory was wanted for it
abbrev pub IsStored : Store → Store → Written → Result (Unit {0}) Refusal → Type 0
IsStored before now file (Ok done) = HasWritten before now file
IsStored before now file (Err refusal) =
    IsWriteCall before now
    × (((refused refusal ≡ write_failed file.name) × SameElsewhere file.name before.held now.held × Rose before.counts.write_faults now.counts.write_faults)
    ⊎ (Wants refusal × (now.held ≡ before.held)))

-- ---- images

-- by this the images of the graph's description are measured, or memory was wanted
abbrev pub IsLayoutOf : Graph → Result Layout Refusal → Type 0
IsLayoutOf g (Ok l) = measures_of l ≡ measures (table g.desc) g.word_bits
IsLayoutOf g (Err refusal) = Wants refusal

-- the bits have a fault, which is told
pub record IsFaultyImage (bytes : List ℕ) (g : Graph) (name bits : List ℕ) (told : Reply) : Type 0 where
  pub fault : ImageFault
  pub some : fault ≡ image_faults.Memory → ⊥
  pub faulty : image.IsRefused (measures (table g.desc) g.word_bits) (sha256 bytes) bits fault
  pub is : told ≡ image_fault name fault

-- the bits are the image, or they have a fault, or memory was wanted
abbrev pub IsFound : List ℕ → Graph → List ℕ → List ℕ → Result Image Refusal → Type 0
IsFound bytes g name bits (Ok i) = IsImageOf (measures (table g.desc) g.word_bits) (sha256 bytes) bits (picture_of i)
IsFound bytes g name bits (Err refusal) = Wants refusal ⊎ IsFaultyImage bytes g name bits (refused refusal)

-- ---- `dis`

-- the canonical text of the image, or memory was wanted
abbrev pub IsShown : Graph → Picture → Result (List ℕ) Refusal → Type 0
IsShown g i (Ok text) = IsCanonical (table g.desc) g.word_bits i.words (initials i) text
IsShown g i (Err refusal) = Wants refusal

-- what is told of a canonical text or a refusal
abbrev pub shown : Result (List ℕ) Refusal → Work
shown (Ok text) = telling (disassembled text)
shown (Err refusal) = telling (refused refusal)

-- ---- inputs

-- the first line that writes no number that is wanted is told
pub record IsBadNumber (name : List ℕ) (port : Option Ty) (text : List ℕ) (told : Reply) : Type 0 where
  pub line : ℕ
  pub bad : numbers port text ≡ Err line
  pub is : told ≡ bad_input name line

-- these are the numbers of the input, or a line of it is bad, or memory was wanted
abbrev pub IsNumbered : List ℕ → Option Ty → List ℕ → Result (Vec ℤ) Refusal → Type 0
IsNumbered name port text (Ok found) = numbers port text ≡ Ok found.items
IsNumbered name port text (Err refusal) = Wants refusal ⊎ IsBadNumber name port text (refused refusal)

-- ---- `run`

-- a run of the image on these numbers, for at most so many steps, is told
abbrev pub TellsRunOf : ℕ → Table → Picture → List ℤ → List Asked → Work → Type 0
TellsRunOf steps t i found asked work = (r : RunOutcome) × RunsImage t i.words (initials i) found steps r × EndsWith (told_run r) asked work

-- all three files were read, and a run may begin
pub record IsReady (before now : Store) (description image input : List ℕ) (g : Graph) (i : Picture) (found : List ℤ) : Type 0 where
  pub bytes : List ℕ
  pub bits : List ℕ
  pub entry : List ℕ
  pub is : IsImageOf (measures (table g.desc) g.word_bits) (sha256 bytes) bits i
  pub numbers_are : numbers (input_type (table g.desc)) entry ≡ Ok found
  pub whole : IsGraph g
  pub arrives : (steps : ℕ) → Arrives before now (description ∷ image ∷ input ∷ []) [] (RunComesTo description image input steps) (TellsRunOf steps (table g.desc) i found)

abbrev pub RunSettles : Store → Store → List ℕ → List ℕ → List ℕ → Result Ready Refusal → Type 0
RunSettles before now description image input (Ok r) = IsReady before now description image input r.graph (picture_of r.image) r.numbers.items
RunSettles before now description image input (Err refusal) =
    (steps : ℕ) → Settles before now (description ∷ image ∷ input ∷ []) (RunComesTo description image input steps) (telling (refused refusal))

-- ---- `ceval`

-- the description lacks something for programs, which is told
pub record IsLacking (name : List ℕ) (tree : Desc) (told : Reply) : Type 0 where
  pub what : Lacking
  pub lacks : target tree ≡ Err what
  pub is : told ≡ no_target name what

-- its numbers have so many bits, or it lacks something, or memory was wanted
abbrev pub IsTargeted : List ℕ → Desc → Result ℕ Refusal → Type 0
IsTargeted name tree (Ok n) = (target tree ≡ Ok n) × (16 ≤ n) × (n ≤ 32)
IsTargeted name tree (Err refusal) = Wants refusal ⊎ IsLacking name tree (refused refusal)

-- the bytes of this name have a fault as a program
pub record IsFaultyProgram (name bytes : List ℕ) (n : ℕ) (told : Reply) : Type 0 where
  pub fault : CFault
  pub faulty : HasProgramFault bytes n fault
  pub is : told ≡ program_fault name fault

-- the bytes spell a program, or they have a fault, or memory was wanted
abbrev pub IsProgramSpelled : List ℕ → List ℕ → ℕ → Result CTree Refusal → Type 0
IsProgramSpelled name bytes n (Ok tree) = IsTree bytes tree
IsProgramSpelled name bytes n (Err refusal) = Wants refusal ⊎ IsFaultyProgram name bytes n (refused refusal)

-- the program has a fault, which is told
pub record IsRefusedProgram (name : List ℕ) (n : ℕ) (tree : CTree) (told : Reply) : Type 0 where
  pub fault : CFault
  pub faulty : IsTreeFaultOf tree n fault
  pub some : fault ≡ program_faults.Memory → ⊥
  pub is : told ≡ program_fault name fault

-- it is this program, which has no fault, or it has one, or memory was wanted
abbrev pub IsProgramChecked : List ℕ → ℕ → CTree → Result (CTree × ℕ) Refusal → Type 0
IsProgramChecked name n tree (Ok p) = (p ≡ (tree, n)) × IsAcceptedTree tree n
IsProgramChecked name n tree (Err refusal) = Wants refusal ⊎ IsRefusedProgram name n tree (refused refusal)

-- the bytes are accepted as this program, or they have a fault, or memory was wanted
abbrev pub IsCompiled : List ℕ → List ℕ → ℕ → Result (CTree × ℕ) Refusal → Type 0
IsCompiled name bytes n (Ok p) = (p.1 ≡ n) × IsProgram bytes n p.0
IsCompiled name bytes n (Err refusal) = Wants refusal ⊎ IsFaultyProgram name bytes n (refused refusal)

-- the run of what was prepared, for at most so many turns, or a refusal is told
abbrev pub evaluated : ℕ → Result Prepared Refusal → Work
evaluated turns (Ok p) = telling (told_outcome (outcome (resolved p.program.0) p.program.1 p.numbers.items turns))
evaluated turns (Err refusal) = telling (refused refusal)
