-- However the reads are answered, it can't be that words come to nothing.
use Rattle.std.proofs.Common.{◌≡◌, ◌⊎◌, ℕ, suc, List, [], ◌∷◌, ℤ, Result, Ok, Err, Option, Some, None, refl, sym, inl, inr}
use Rattle.sha2.specs.Sha256.{sha256}
use Rattle.nml_tree.specs.declared.fault.DescFault.TheVariants as faults
use Rattle.nml_tree.specs.declared.tree.Desc.{Desc}
use Rattle.nml_tree.specs.Floats.{float_places}
use Rattle.nml_tree.specs.Machine.{first_cells}
use Rattle.nml_tree.specs.Refused.{IsChecked}
use Rattle.nml_tree.specs.Table.{Table, table}
use Rattle.nml_tree.specs.Valid.{IsWordWidth}
use Rattle.nml_lex.specs.Lexed.{IsStuckAt}
use Rattle.nml_grammar.specs.Trees.{IsTree, HasNoTree, IsFloat}
use Rattle.nml_grammar.proofs.SomeReading.{some_tree, some_float}
use Rattle.nml_refusals.proofs.Told.{told, some_summary}
use Rattle.nml_refusals.proofs.TreeFaults.{checked_if_none}
use Rattle.nml_runs.proofs.SomeRun.{some_run}
use Rattle.image_file.specs.File.{Picture}
use Rattle.image_file.specs.Measured.{measures}
use Rattle.image_file.specs.Refused.{IsAnswer}
use Rattle.image_file.specs.Valid.{AreBytes}
use Rattle.image_file.specs.declared.fault.ImageFault.{ImageFault}
use Rattle.image_file.proofs.Answered as images
use Rattle.asm_text.proofs.SomeAnswer.{some_answer}
use Rattle.asm_text.proofs.CanonicalTexts.{some_canonical}
use Rattle.nml_suite.specs.Coming.{EndsWith, SumsUp, Summed, Opens, Short, Opened, Accepts, Faulty, Accepted, Sizes, Sized, AssemblesTo, FaultyText, Words, Loads, FaultyImage, Loaded, DisassemblesTo, Shown, RunsTo, Input, Ran, Targets, NoTarget, Targeted, Compiles, FaultyProgram, SoundProgram, EvaluatesTo, BadNumber, Evaluated, ComesTo, picture, made, initials}
use Rattle.nml_suite.specs.Complete.{Answering, AllAnswer, AreAnswered, AreReadable, ComesOut}
use Rattle.nml_suite.specs.Described.{Spells, NoTokens, NoTree, Floating, Refused, IsAccepted}
use Rattle.nml_target.specs.Target.{target}
use Rattle.nml_target.specs.declared.width.Lacking.{Lacking}
use Rattle.nk_base.specs.declared.number.Ty.TheVariants as ty
use Rattle.input_lines.specs.Input.{numbers}
use Rattle.input_port.specs.Port.{input_type}
use Rattle.c_tree.specs.declared.program.CTree.{CTree}
use Rattle.c_tree.specs.declared.fault.CFault.TheVariants as c_faults
use Rattle.c_tree.specs.declared.fault.CFault.{CFault}
use Rattle.c_tree.specs.Items.{items}
use Rattle.c_lex.specs.Lexed as c_tokens
use Rattle.c_grammar.specs.Trees as c_trees
use Rattle.c_grammar.proofs.SomeReading.{some_bytes}
use Rattle.c_check.proofs.SomeFault.{accepted_if_none}
use Rattle.nml_suite.specs.Programs.{HasProgramFault, NoProgramTokens, LeftOut, NoProgram, RefusedProgram, IsProgram}
use Rattle.nml_suite.proofs.Programs.{memory_only}
use Rattle.nml_command.specs.Form.{Form, Check, Asm, Dis, Run, Cc, Ceval, Demo}
use Rattle.nml_reply.specs.Reading.{Reading, Got, Absent, Failed, TooLong, Unread}
use Rattle.nml_reply.specs.Reply.{Reply, bad_input, disassembled, told_run}
use Rattle.nml_suite.specs.Reading.{Asked}
use Rattle.nml_suite.specs.Work.{Work, telling}

-- it can't be that reads that are answered so, the first of them being the one at this place, come to nothing
abbrev Comes : Answering → ℕ → (List Asked → Work → Type 0) → Type 0
Comes answers k goes = ((asked : List Asked) (work : Work) → AreAnswered answers k asked → goes asked work → ⊥) → ⊥

ends : (answers : Answering) (k : ℕ) (o : Reply) → Comes answers k (EndsWith o)
ends answers k o none = none [] (telling o) tt (record { last = refl; is = refl })

-- ---- the steps

opens_by : (answers : Answering) (k : ℕ) (name : List ℕ) (goes : List ℕ → List Asked → Work → Type 0) (r : Reading) → answers k name ≡ r → (r ≡ Unread → ⊥)
    → ((bytes : List ℕ) → answers k name ≡ Got bytes → Comes answers (suc k) (goes bytes)) → Comes answers k (Opens name goes)
opens_by answers k name goes (Got bytes) e told h none = h bytes e (λ more work a g. none ((name, Got bytes) ∷ more) work (sym e, a) (Opened bytes more refl g))
opens_by answers k name goes Absent e told h none = none ((name, Absent) ∷ []) _ (sym e, tt) (Short Absent refl tt refl)
opens_by answers k name goes Failed e told h none = none ((name, Failed) ∷ []) _ (sym e, tt) (Short Failed refl tt refl)
opens_by answers k name goes TooLong e told h none = none ((name, TooLong) ∷ []) _ (sym e, tt) (Short TooLong refl tt refl)
opens_by answers k name goes Unread e told h none = absurd (told refl)

-- the call goes on with bytes that were answered at that place
opens : (answers : Answering) (k : ℕ) (name : List ℕ) (goes : List ℕ → List Asked → Work → Type 0) → AllAnswer answers
    → ((bytes : List ℕ) → answers k name ≡ Got bytes → Comes answers (suc k) (goes bytes)) → Comes answers k (Opens name goes)
opens answers k name goes all h = opens_by answers k name goes (answers k name) refl (all k name) h

accepts_tree : (answers : Answering) (k : ℕ) (name bytes : List ℕ) (goes : Desc → List Asked → Work → Type 0) (tree : Desc) → IsTree bytes tree
    → ((tree : Desc) → IsAccepted bytes tree → Comes answers k (goes tree)) → (float_places tree ≡ []) ⊎ ((at : ℕ) × IsFloat bytes at) → Comes answers k (Accepts name bytes goes)
accepts_tree answers k name bytes goes tree is h (inl clear) none =
    let spelled : Spells bytes tree = record { is = is; no_float = clear } in
    let right = checked_if_none tree (told tree) (λ f x. none [] _ tt (Faulty f (Refused tree spelled x) (record { last = refl; is = refl }))) in
    let accepted : IsAccepted bytes tree = record { spelled = spelled; right = right } in
    h tree accepted (λ asked work a g. none asked work a (Accepted tree accepted g))
accepts_tree answers k name bytes goes tree is h (inr float) none = none [] _ tt (Faulty (faults.Float float.0) (Floating float.0 refl float.1) (record { last = refl; is = refl }))

accepts_by : (answers : Answering) (k : ℕ) (name bytes : List ℕ) (goes : Desc → List Asked → Work → Type 0) → ((tree : Desc) → IsAccepted bytes tree → Comes answers k (goes tree))
    → ((d : Desc) × IsTree bytes d) ⊎ (((at : ℕ) × HasNoTree bytes at) ⊎ ((at : ℕ) × IsStuckAt bytes at)) → Comes answers k (Accepts name bytes goes)
accepts_by answers k name bytes goes h (inl x) none = accepts_tree answers k name bytes goes x.0 x.1 h (some_float bytes x.0 x.1) none
accepts_by answers k name bytes goes h (inr (inl x)) none = none [] _ tt (Faulty (faults.Syntax x.0) (NoTree x.0 refl x.1) (record { last = refl; is = refl }))
accepts_by answers k name bytes goes h (inr (inr x)) none = none [] _ tt (Faulty (faults.Lex x.0) (NoTokens x.0 refl x.1) (record { last = refl; is = refl }))

accepts : (answers : Answering) (k : ℕ) (name bytes : List ℕ) (goes : Desc → List Asked → Work → Type 0) → ((tree : Desc) → IsAccepted bytes tree → Comes answers k (goes tree)) → Comes answers k (Accepts name bytes goes)
accepts answers k name bytes goes h = accepts_by answers k name bytes goes h (some_tree bytes)

sizes : (answers : Answering) (k : ℕ) (tree : Desc) (goes : ℕ → List Asked → Work → Type 0) → IsChecked tree
    → ((width : ℕ) → IsWordWidth (table tree) width → Comes answers k (goes width)) → Comes answers k (Sizes tree goes)
sizes answers k tree goes checked h none = let s = some_summary tree checked in h s.1 s.2.width_is (λ asked work a g. none asked work a (Sized s.1 s.2.width_is g))

-- ---- `check`

sums_up : (answers : Answering) (k : ℕ) (tree : Desc) → IsChecked tree → Comes answers k (SumsUp tree)
sums_up answers k tree checked none = let s = some_summary tree checked in none [] _ tt (Summed s.0 s.1 s.2 (record { last = refl; is = refl }))

-- ---- `asm`

assembles : (answers : Answering) (k : ℕ) (name image bytes : List ℕ) (d : Desc) (width : ℕ) (text : List ℕ) → IsChecked d
    → Comes answers k (AssemblesTo name image bytes (table d) width text)
assembles answers k name image bytes d width text checked none =
    some_answer d width text checked (λ words inits h. none [] (made image (picture bytes width words inits)) tt (Words words inits h refl refl))
    (λ f some h. none [] _ tt (FaultyText f some h (record { last = refl; is = refl })))

-- ---- images

loads_by : (answers : Answering) (k : ℕ) (name bytes : List ℕ) (t : Table) (width : ℕ) (bits : List ℕ) (goes : Picture → List Asked → Work → Type 0) (r : Result Picture ImageFault)
    → IsAnswer (measures t width) (sha256 bytes) bits r → ((i : Picture) → Comes answers k (goes i)) → Comes answers k (Loads name bytes t width bits goes)
loads_by answers k name bytes t width bits goes (Err f) is h none = none [] _ tt (FaultyImage f is.0 is.1 (record { last = refl; is = refl }))
loads_by answers k name bytes t width bits goes (Ok i) is h none = h i (λ asked work a g. none asked work a (Loaded i is g))

loads : (answers : Answering) (k : ℕ) (name bytes : List ℕ) (t : Table) (width : ℕ) (bits : List ℕ) (goes : Picture → List Asked → Work → Type 0) → AreBytes bits
    → ((i : Picture) → Comes answers k (goes i)) → Comes answers k (Loads name bytes t width bits goes)
loads answers k name bytes t width bits goes are h =
    let r = images.some_answer (measures t width) (sha256 bytes) bits are in loads_by answers k name bytes t width bits goes r.0 r.1 h

-- ---- `dis`

-- it can't be that an image comes to no text
pub some_shown : (d : Desc) (width : ℕ) (i : Picture) → ((work : Work) → DisassemblesTo (table d) width i [] work → ⊥) → ⊥
some_shown d width i none =
    some_canonical d width i.words (initials i) (λ text h. none (telling (disassembled text)) (Shown text h (record { last = refl; is = refl })))

-- ---- `run`

some_numbers : (x : List ℕ) (steps : ℕ) (t : Table) (i : Picture) (text : List ℕ) (r : Result (List ℤ) ℕ) → numbers (input_type t) text ≡ r
    → ((work : Work) → RunsTo x steps t i text [] work → ⊥) → ⊥
some_numbers x steps t i text (Err line) e none = none (telling (bad_input x line)) (Input line e (record { last = refl; is = refl }))
some_numbers x steps t i text (Ok found) e none =
    some_run t i.words steps (record { cells = first_cells t (initials i); input = found }) (λ r runs. none (telling (told_run r)) (Ran found e r runs (record { last = refl; is = refl })))

-- and that its run on an input comes to nothing
pub some_told : (x : List ℕ) (steps : ℕ) (t : Table) (i : Picture) (text : List ℕ) → ((work : Work) → RunsTo x steps t i text [] work → ⊥) → ⊥
some_told x steps t i text none = some_numbers x steps t i text (numbers (input_type t) text) refl none

-- ---- `ceval`

targets_by : (answers : Answering) (k : ℕ) (name : List ℕ) (tree : Desc) (goes : ℕ → List Asked → Work → Type 0) (r : Result ℕ Lacking) → target tree ≡ r
    → ((n : ℕ) → Comes answers k (goes n)) → Comes answers k (Targets name tree goes)
targets_by answers k name tree goes (Err what) e h none = none [] _ tt (NoTarget what e (record { last = refl; is = refl }))
targets_by answers k name tree goes (Ok n) e h none = h n (λ asked work a g. none asked work a (Targeted n e g))

-- a program that isn't refused is accepted
sound_if_none : (bytes : List ℕ) (n : ℕ) (tree : CTree) → c_trees.IsTree bytes tree → ((f : CFault) → HasProgramFault bytes n f → ⊥) → IsProgram bytes n tree
sound_if_none bytes n tree is none =
    record { spelled = is; accepted = accepted_if_none (items tree) n (λ f x. memory_only f (λ some. none f (RefusedProgram tree is x some))) }

compiles_by : (answers : Answering) (k : ℕ) (name bytes : List ℕ) (n : ℕ) (goes : CTree → List Asked → Work → Type 0) → ((tree : CTree) → Comes answers k (goes tree))
    → ((c : CTree) × c_trees.IsTree bytes c) ⊎ (((at : ℕ) × c_trees.HasNoTree bytes at) ⊎ (((at : ℕ) × c_trees.IsOutsideAt bytes at) ⊎ ((at : ℕ) × c_tokens.IsStuckAt bytes at)))
    → Comes answers k (Compiles name bytes n goes)
compiles_by answers k name bytes n goes h (inl x) none =
    let sound = sound_if_none bytes n x.0 x.1 (λ f faulty. none [] _ tt (FaultyProgram f faulty (record { last = refl; is = refl }))) in
    h x.0 (λ asked work a g. none asked work a (SoundProgram x.0 sound g))
compiles_by answers k name bytes n goes h (inr (inl x)) none = none [] _ tt (FaultyProgram (c_faults.Syntax x.0) (NoProgram x.0 refl x.1) (record { last = refl; is = refl }))
compiles_by answers k name bytes n goes h (inr (inr (inl x))) none = none [] _ tt (FaultyProgram (c_faults.Outside x.0) (LeftOut x.0 refl x.1) (record { last = refl; is = refl }))
compiles_by answers k name bytes n goes h (inr (inr (inr x))) none = none [] _ tt (FaultyProgram (c_faults.Lex x.0) (NoProgramTokens x.0 refl x.1) (record { last = refl; is = refl }))

evaluates_by : (answers : Answering) (k : ℕ) (x : List ℕ) (turns n : ℕ) (tree : CTree) (text : List ℕ) (r : Result (List ℤ) ℕ) → numbers (Some (ty.Int n)) text ≡ r
    → Comes answers k (EvaluatesTo x turns n tree text)
evaluates_by answers k x turns n tree text (Err line) e none = none [] _ tt (BadNumber line e (record { last = refl; is = refl }))
evaluates_by answers k x turns n tree text (Ok found) e none = none [] _ tt (Evaluated found e (record { last = refl; is = refl }))

-- ---- any words

comes : (answers : Answering) (form : Option Form) → AllAnswer answers → AreReadable answers → Comes answers 0 (ComesTo form)
comes answers None all are = ends answers 0 _
comes answers (Some (Check d)) all are = opens answers 0 d _ all (λ bytes e. accepts answers 1 d bytes _ (λ tree a. sums_up answers 1 tree a.right))
comes answers (Some (Asm d s i)) all are =
    opens answers 0 d _ all
    (λ bytes e. accepts answers 1 d bytes _
    (λ tree a. sizes answers 1 tree _ a.right (λ width is. opens answers 1 s _ all (λ text f. assembles answers 2 s i bytes tree width text a.right))))
comes answers (Some (Dis d i)) all are =
    opens answers 0 d _ all
    (λ bytes e. accepts answers 1 d bytes _
    (λ tree a. sizes answers 1 tree _ a.right
    (λ width is. opens answers 1 i _ all
    (λ bits f. loads answers 2 i bytes (table tree) width bits _ (are 1 i bits f)
    (λ image none. some_shown tree width image (λ work shown. none [] work tt shown))))))
comes answers (Some (Run d i x n)) all are =
    opens answers 0 d _ all
    (λ bytes e. accepts answers 1 d bytes _
    (λ tree a. sizes answers 1 tree _ a.right
    (λ width is. opens answers 1 i _ all
    (λ bits f. loads answers 2 i bytes (table tree) width bits _ (are 1 i bits f)
    (λ image. opens answers 2 x _ all (λ text g none. some_told x n (table tree) image text (λ work told. none [] work tt told)))))))
comes answers (Some (Cc d s i)) all are = ends answers 0 _
comes answers (Some (Ceval d s x turns)) all are =
    opens answers 0 d _ all
    (λ bytes e. accepts answers 1 d bytes _
    (λ tree a. targets_by answers 1 d tree _ (target tree) refl
    (λ n. opens answers 1 s _ all
    (λ text f. compiles_by answers 2 s text n _
    (λ program. opens answers 2 x _ all (λ entry g. evaluates_by answers 3 x turns n program entry (numbers (Some (ty.Int n)) entry) refl))
    (some_bytes text)))))
comes answers (Some (Demo k)) all are = ends answers 0 _

pub some_work : (answers : Answering) (form : Option Form) → AllAnswer answers → AreReadable answers → ((work : Work) → ComesOut answers form work → ⊥) → ⊥
some_work answers form all are none = comes answers form all are (λ asked work a g. none work (record { asked = asked; answered = a; comes = g }))
