-- However the reads are answered, words come to one thing alone.
use Rattle.std.proofs.Common.{◌≡◌, ℕ, suc, List, [], ◌∷◌, Result, Ok, Err, Option, Some, None, refl, sym, ap, ◌∙◌, subst, arith}
use Rattle.sha2.specs.Sha256.{sha256}
use Rattle.nml_tree.specs.declared.tree.Desc.{Desc}
use Rattle.nml_tree.specs.Table.{table}
use Rattle.nml_tree.specs.Machine.{RunsImage}
use Rattle.nml_tree.specs.Refused.{IsChecked}
use Rattle.nml_tree.specs.Valid.{IsWordWidth}
use Rattle.nml_refusals.proofs.Summaries.{less, one_summary, some_root}
use Rattle.nml_runs.proofs.OneOutcome.{one_outcome}
use Rattle.image_file.specs.File.{Picture}
use Rattle.image_file.specs.Measured.{measures}
use Rattle.image_file.specs.Refused.{IsAnswer, IsRefused}
use Rattle.image_file.specs.Valid.{IsImageOf}
use Rattle.image_file.specs.declared.fault.ImageFault.{ImageFault}
use Rattle.image_file.specs.declared.fault.ImageFault.TheVariants as image_faults
use Rattle.image_file.proofs.Answered as images
use Rattle.image_layout.proofs.Limits.{limited}
use Rattle.asm_text.proofs.OneAnswer as texts
use Rattle.asm_text.proofs.OneAnswer.{one_words, apart}
use Rattle.asm_text.proofs.CanonicalTexts.{one_canonical}
use Rattle.nml_suite.specs.Coming.{EndsWith, SumsUp, Summed, Opens, Short, Opened, Accepts, Faulty, Accepted, Sizes, Sized, AssemblesTo, FaultyText, Words, Loads, FaultyImage, Loaded, DisassemblesTo, Shown, RunsTo, Input, Ran, Targets, NoTarget, Targeted, Compiles, FaultyProgram, SoundProgram, EvaluatesTo, BadNumber, Evaluated, ComesTo, picture, made, initials}
use Rattle.nml_suite.specs.Complete.{Answering, AreAnswered, ComesOut}
use Rattle.nml_suite.specs.Described.{IsAccepted}
use Rattle.nml_command.specs.Form.{Form, Check, Asm, Dis, Run, Cc, Ceval, Demo}
use Rattle.nml_reply.specs.Reading.{Got}
use Rattle.nml_reply.specs.Reply.{Reply, unread, accepted, description_fault, text_fault, image_fault, bad_input, disassembled, told_run, no_target, program_fault, told_outcome}
use Rattle.nml_suite.specs.Reading.{IsShort, Asked}
use Rattle.nml_suite.specs.Work.{Work, telling}
use Rattle.c_tree.specs.declared.program.CTree.{CTree}
use Rattle.c_tree.specs.Meaning.{outcome}
use Rattle.c_tree.specs.Resolve.{resolved}
use Rattle.nml_suite.proofs.Images.{digest_is}
use Rattle.nml_suite.proofs.Programs.{one_program_fault, no_program_fault, one_program}
use Rattle.nml_suite.proofs.OneFault.{one_fault, no_fault, one_accepted}

same_bytes : {a b : List ℕ} → Got a ≡ Got b → a ≡ b
same_bytes e = cc

-- the same is told
both_end : (o p : Reply) (xs ys : List Asked) (w v : Work) → o ≡ p → EndsWith o xs w → EndsWith p ys v → w ≡ v
both_end o p xs ys w v e x y = x.is ∙ ap telling e ∙ sym y.is

-- ---- the steps

opens_one : (answers : Answering) (k : ℕ) (name : List ℕ) (goes went : List ℕ → List Asked → Work → Type 0) (xs ys : List Asked) (w v : Work)
    → AreAnswered answers k xs → AreAnswered answers k ys
    → ((bytes : List ℕ) (more other : List Asked) → AreAnswered answers (suc k) more → AreAnswered answers (suc k) other → goes bytes more w → went bytes other v → w ≡ v)
    → Opens name goes xs w → Opens name went ys v → w ≡ v
opens_one answers k name goes went xs ys w v a b h (Short r e short is) (Short q f brief so) =
    let x : AreAnswered answers k ((name, r) ∷ []) = subst (AreAnswered answers k) e a in
    let y : AreAnswered answers k ((name, q) ∷ []) = subst (AreAnswered answers k) f b in
    is ∙ ap (λ z. telling (unread name z)) (x.0 ∙ sym y.0) ∙ sym so
opens_one answers k name goes went xs ys w v a b h (Short r e short is) (Opened bytes more f g) =
    let x : AreAnswered answers k ((name, r) ∷ []) = subst (AreAnswered answers k) e a in
    let y : AreAnswered answers k ((name, Got bytes) ∷ more) = subst (AreAnswered answers k) f b in
    absurd (subst IsShort (x.0 ∙ sym y.0) short)
opens_one answers k name goes went xs ys w v a b h (Opened bytes more e g) (Short q f brief so) =
    let x : AreAnswered answers k ((name, Got bytes) ∷ more) = subst (AreAnswered answers k) e a in
    let y : AreAnswered answers k ((name, q) ∷ []) = subst (AreAnswered answers k) f b in
    absurd (subst IsShort (y.0 ∙ sym x.0) brief)
opens_one answers k name goes went xs ys w v a b h (Opened bytes more e g) (Opened text other f d) =
    let x : AreAnswered answers k ((name, Got bytes) ∷ more) = subst (AreAnswered answers k) e a in
    let y : AreAnswered answers k ((name, Got text) ∷ other) = subst (AreAnswered answers k) f b in
    h text more other x.1 y.1 (subst (λ t. goes t more w) (same_bytes (x.0 ∙ sym y.0)) g) d

accepts_one : (name bytes : List ℕ) (goes went : Desc → List Asked → Work → Type 0) (xs ys : List Asked) (w v : Work)
    → ((tree : Desc) → IsAccepted bytes tree → goes tree xs w → went tree ys v → w ≡ v)
    → Accepts name bytes goes xs w → Accepts name bytes went ys v → w ≡ v
accepts_one name bytes goes went xs ys w v h (Faulty f x e) (Faulty g y i) = both_end _ _ xs ys w v (ap (description_fault name) (one_fault bytes f g x y)) e i
accepts_one name bytes goes went xs ys w v h (Faulty f x e) (Accepted t a g) = absurd (no_fault bytes t f a x)
accepts_one name bytes goes went xs ys w v h (Accepted t a g) (Faulty f x e) = absurd (no_fault bytes t f a x)
accepts_one name bytes goes went xs ys w v h (Accepted t a g) (Accepted u b d) = h u b (subst (λ z. goes z xs w) (one_accepted bytes t u a b) g) d

-- where there is an instruction, all words have one number of bits
pub one_width : (d : Desc) (a b : ℕ) → IsChecked d → IsWordWidth (table d) a → IsWordWidth (table d) b → a ≡ b
one_width d a b checked h k = let x = some_root d (less d 12 13 (omega arith) checked.free) in sym (h x.0 x.1) ∙ k x.0 x.1

sizes_one : (tree : Desc) (goes went : ℕ → List Asked → Work → Type 0) (xs ys : List Asked) (w v : Work) → IsChecked tree
    → ((width : ℕ) → IsWordWidth (table tree) width → goes width xs w → went width ys v → w ≡ v) → Sizes tree goes xs w → Sizes tree went ys v → w ≡ v
sizes_one tree goes went xs ys w v checked h (Sized a x g) (Sized b y f) = h b y (subst (λ z. goes z xs w) (one_width tree a b checked x y) g) f

-- ---- `check`

sums_one : (tree : Desc) (xs ys : List Asked) (w v : Work) → SumsUp tree xs w → SumsUp tree ys v → w ≡ v
sums_one tree xs ys w v (Summed c b s e) (Summed a z t f) =
    let same = one_summary (table tree) c b a z s t in both_end _ _ xs ys w v (λ j. accepted (same.0 j) (same.1 j)) e f

-- ---- `asm`

text_one : (name image bytes : List ℕ) (d : Desc) (width : ℕ) (text : List ℕ) (xs ys : List Asked) (w v : Work) → IsChecked d
    → AssemblesTo name image bytes (table d) width text xs w → AssemblesTo name image bytes (table d) width text ys v → w ≡ v
text_one name image bytes d width text xs ys w v checked (FaultyText f a h e) (FaultyText g b k i) = both_end _ _ xs ys w v (ap (text_fault name) (texts.one_fault d width text f g a b h k)) e i
text_one name image bytes d width text xs ys w v checked (FaultyText f a h e) (Words ws is k last i) = absurd (a (apart d width text ws is f k h))
text_one name image bytes d width text xs ys w v checked (Words ws is h last e) (FaultyText g b k i) = absurd (b (apart d width text ws is g h k))
text_one name image bytes d width text xs ys w v checked (Words ws is h last e) (Words vs js k end i) =
    let same = one_words d width text ws vs is js checked h k in
    let p : made image (picture bytes width ws is) ≡ made image (picture bytes width vs js) = λ j. made image (picture bytes width (same.0 j) (same.1 j)) in
    e ∙ p ∙ sym i

-- ---- images

-- bits come to one image of a description, or to one fault
one_answer : (bytes : List ℕ) (d : Desc) (width : ℕ) (bits : List ℕ) (a b : Result Picture ImageFault) → IsChecked d → IsWordWidth (table d) width
    → IsAnswer (measures (table d) width) (sha256 bytes) bits a → IsAnswer (measures (table d) width) (sha256 bytes) bits b → a ≡ b
one_answer bytes d width bits a b checked is h k = images.one_answer (measures (table d) width) (sha256 bytes) bits a b (limited d width checked is) (digest_is bytes) h k

pub one_image : (bytes : List ℕ) (d : Desc) (width : ℕ) (bits : List ℕ) (i j : Picture) → IsChecked d → IsWordWidth (table d) width
    → IsImageOf (measures (table d) width) (sha256 bytes) bits i → IsImageOf (measures (table d) width) (sha256 bytes) bits j → i ≡ j
one_image bytes d width bits i j checked is h k = cc (one_answer bytes d width bits (Ok i) (Ok j) checked is h k)

pub no_image_fault : (bytes : List ℕ) (d : Desc) (width : ℕ) (bits : List ℕ) (i : Picture) (f : ImageFault) → IsChecked d → IsWordWidth (table d) width
    → IsImageOf (measures (table d) width) (sha256 bytes) bits i → (f ≡ image_faults.Memory → ⊥) → IsRefused (measures (table d) width) (sha256 bytes) bits f → ⊥
no_image_fault bytes d width bits i f checked is h some k = absurd (cc (one_answer bytes d width bits (Ok i) (Err f) checked is h (some, k)))

loads_one : (name bytes : List ℕ) (d : Desc) (width : ℕ) (bits : List ℕ) (goes went : Picture → List Asked → Work → Type 0) (xs ys : List Asked) (w v : Work) → IsChecked d
    → IsWordWidth (table d) width → ((i : Picture) → goes i xs w → went i ys v → w ≡ v) → Loads name bytes (table d) width bits goes xs w
    → Loads name bytes (table d) width bits went ys v → w ≡ v
loads_one name bytes d width bits goes went xs ys w v checked is h (FaultyImage f a x e) (FaultyImage g b y i) =
    let same : f ≡ g = cc (one_answer bytes d width bits (Err f) (Err g) checked is (a, x) (b, y)) in both_end _ _ xs ys w v (ap (image_fault name) same) e i
loads_one name bytes d width bits goes went xs ys w v checked is h (FaultyImage f a x e) (Loaded j y g) = absurd (no_image_fault bytes d width bits j f checked is y a x)
loads_one name bytes d width bits goes went xs ys w v checked is h (Loaded i x g) (FaultyImage f b y e) = absurd (no_image_fault bytes d width bits i f checked is x b y)
loads_one name bytes d width bits goes went xs ys w v checked is h (Loaded i x g) (Loaded j y f) =
    h j (subst (λ z. goes z xs w) (one_image bytes d width bits i j checked is x y) g) f

-- ---- `dis`

shows_one : (d : Desc) (width : ℕ) (i : Picture) (xs ys : List Asked) (w v : Work) → IsChecked d → DisassemblesTo (table d) width i xs w
    → DisassemblesTo (table d) width i ys v → w ≡ v
shows_one d width i xs ys w v checked (Shown a x e) (Shown b y f) = both_end _ _ xs ys w v (ap disassembled (one_canonical d width i.words a b (initials i) checked x y)) e f

-- ---- `run`

runs_one : (x : List ℕ) (steps : ℕ) (d : Desc) (i : Picture) (text : List ℕ) (xs ys : List Asked) (w v : Work) → IsChecked d
    → RunsTo x steps (table d) i text xs w → RunsTo x steps (table d) i text ys v → w ≡ v
runs_one x steps d i text xs ys w v checked (Input line a e) (Input other b f) = let same : line ≡ other = cc (a, b) in both_end _ _ xs ys w v (ap (bad_input x) same) e f
runs_one x steps d i text xs ys w v checked (Input line a e) (Ran found b r runs f) = absurd (cc (a, b))
runs_one x steps d i text xs ys w v checked (Ran found a r runs e) (Input line b f) = absurd (cc (a, b))
runs_one x steps d i text xs ys w v checked (Ran found a r runs e) (Ran other b q goes f) =
    let same : found ≡ other = cc (a, b) in
    let moved : RunsImage (table d) i.words (initials i) other steps r = subst (λ zs. RunsImage (table d) i.words (initials i) zs steps r) same runs in
    both_end _ _ xs ys w v (ap told_run (one_outcome d i.words steps _ r q checked moved goes)) e f

-- ---- `ceval`

targets_one : (name : List ℕ) (tree : Desc) (goes went : ℕ → List Asked → Work → Type 0) (xs ys : List Asked) (w v : Work) → ((n : ℕ) → goes n xs w → went n ys v → w ≡ v)
    → Targets name tree goes xs w → Targets name tree went ys v → w ≡ v
targets_one name tree goes went xs ys w v h (NoTarget a e x) (NoTarget b f y) = let same : a ≡ b = cc (e, f) in both_end _ _ xs ys w v (ap (no_target name) same) x y
targets_one name tree goes went xs ys w v h (NoTarget a e x) (Targeted n f g) = absurd (cc (e, f))
targets_one name tree goes went xs ys w v h (Targeted n f g) (NoTarget a e x) = absurd (cc (e, f))
targets_one name tree goes went xs ys w v h (Targeted n e g) (Targeted m f d) = let same : n ≡ m = cc (e, f) in h m (subst (λ z. goes z xs w) same g) d

compiles_one : (name bytes : List ℕ) (n : ℕ) (goes went : CTree → List Asked → Work → Type 0) (xs ys : List Asked) (w v : Work)
    → ((tree : CTree) → goes tree xs w → went tree ys v → w ≡ v) → Compiles name bytes n goes xs w → Compiles name bytes n went ys v → w ≡ v
compiles_one name bytes n goes went xs ys w v h (FaultyProgram f x e) (FaultyProgram g y i) = both_end _ _ xs ys w v (ap (program_fault name) (one_program_fault bytes n f g x y)) e i
compiles_one name bytes n goes went xs ys w v h (FaultyProgram f x e) (SoundProgram t a g) = absurd (no_program_fault bytes n t f a x)
compiles_one name bytes n goes went xs ys w v h (SoundProgram t a g) (FaultyProgram f x e) = absurd (no_program_fault bytes n t f a x)
compiles_one name bytes n goes went xs ys w v h (SoundProgram t a g) (SoundProgram u b d) = h u (subst (λ z. goes z xs w) (one_program bytes n t u a b) g) d

evaluates_one : (x : List ℕ) (turns n : ℕ) (tree : CTree) (text : List ℕ) (xs ys : List Asked) (w v : Work)
    → EvaluatesTo x turns n tree text xs w → EvaluatesTo x turns n tree text ys v → w ≡ v
evaluates_one x turns n tree text xs ys w v (BadNumber a e i) (BadNumber b f j) = let same : a ≡ b = cc (e, f) in both_end _ _ xs ys w v (ap (bad_input x) same) i j
evaluates_one x turns n tree text xs ys w v (BadNumber a e i) (Evaluated b f j) = absurd (cc (e, f))
evaluates_one x turns n tree text xs ys w v (Evaluated a e i) (BadNumber b f j) = absurd (cc (e, f))
evaluates_one x turns n tree text xs ys w v (Evaluated a e i) (Evaluated b f j) =
    let same : a ≡ b = cc (e, f) in both_end _ _ xs ys w v (ap (λ zs. told_outcome (outcome (resolved tree) n zs turns)) same) i j

-- ---- any words

comes_one : (answers : Answering) (form : Option Form) (xs ys : List Asked) (w v : Work) → AreAnswered answers 0 xs → AreAnswered answers 0 ys → ComesTo form xs w → ComesTo form ys v → w ≡ v
comes_one answers None xs ys w v a b x y = both_end _ _ xs ys w v refl x y
comes_one answers (Some (Asm d s i)) xs ys w v a b x y =
    opens_one answers 0 d _ _ xs ys w v a b
    (λ bytes more other c e. accepts_one d bytes _ _ more other w v
    (λ tree k. sizes_one tree _ _ more other w v k.right
    (λ width is. opens_one answers 1 s _ _ more other w v c e
    (λ text rest last f g. text_one s i bytes tree width text rest last w v k.right))))
    x y
comes_one answers (Some (Dis d i)) xs ys w v a b f g =
    opens_one answers 0 d _ _ xs ys w v a b
    (λ bytes more other c e. accepts_one d bytes _ _ more other w v
    (λ tree k. sizes_one tree _ _ more other w v k.right
    (λ width is. opens_one answers 1 i _ _ more other w v c e
    (λ bits rest last h j. loads_one i bytes tree width bits _ _ rest last w v k.right is
    (λ image. shows_one tree width image rest last w v k.right)))))
    f g
comes_one answers (Some (Run d i x n)) xs ys w v a b f g =
    opens_one answers 0 d _ _ xs ys w v a b
    (λ bytes more other c e. accepts_one d bytes _ _ more other w v
    (λ tree k. sizes_one tree _ _ more other w v k.right
    (λ width is. opens_one answers 1 i _ _ more other w v c e
    (λ bits rest last h j. loads_one i bytes tree width bits _ _ rest last w v k.right is
    (λ image. opens_one answers 2 x _ _ rest last w v h j
    (λ text end stop l m. runs_one x n tree image text end stop w v k.right))))))
    f g
comes_one answers (Some (Check d)) xs ys w v a b x y =
    opens_one answers 0 d _ _ xs ys w v a b (λ bytes more other c e. accepts_one d bytes _ _ more other w v (λ tree k. sums_one tree more other w v)) x y
comes_one answers (Some (Cc d s i)) xs ys w v a b x y = both_end _ _ xs ys w v refl x y
comes_one answers (Some (Ceval d s x turns)) xs ys w v a b f g =
    opens_one answers 0 d _ _ xs ys w v a b
    (λ bytes more other c e. accepts_one d bytes _ _ more other w v
    (λ tree k. targets_one d tree _ _ more other w v
    (λ n. opens_one answers 1 s _ _ more other w v c e
    (λ text rest last h j. compiles_one s text n _ _ rest last w v
    (λ program. opens_one answers 2 x _ _ rest last w v h j
    (λ entry end stop l m. evaluates_one x turns n program entry end stop w v))))))
    f g
comes_one answers (Some (Demo k)) xs ys w v a b x y = both_end _ _ xs ys w v refl x y

pub one_work : (answers : Answering) (form : Option Form) (w v : Work) → ComesOut answers form w → ComesOut answers form v → w ≡ v
one_work answers form w v x y = comes_one answers form x.asked y.asked w v x.answered y.answered x.comes y.comes
