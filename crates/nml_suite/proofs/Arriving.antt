-- How the steps of a command are put together: the first files lead to what the rest comes to.
use Rattle.std.proofs.Common.{Option, Some, ◌≡◌, ◌⊎◌, inl, inr, ℕ, List, [], ◌∷◌, ◌++◌, ℤ, None, Result, Ok, Err, refl, sym, ap, ◌∙◌, subst, append_assoc}
use Rattle.sha2.specs.Sha256.{sha256}
use Rattle.nml_tree.specs.Table.{Table, table}
use Rattle.nml_tree.specs.declared.tree.Desc.{Desc}
use Rattle.image_file.specs.File.{Picture, file}
use Rattle.image_file.specs.Seen.{picture_of}
use Rattle.image_file.specs.declared.image.Image.{Image}
use Rattle.isg_graph.specs.Graph.{Graph}
use Rattle.nml_suite.specs.Answer.{AreNamed}
use Rattle.nml_suite.specs.Coming.{SumsUp, Summed, Opens, Short, Opened, Accepts, Faulty, Accepted, Sizes, Sized, AssemblesTo, FaultyText, Words, Loads, FaultyImage, Loaded, DisassemblesTo, Shown, RunsTo, Input, Ran, Targets, NoTarget, Targeted, Compiles, FaultyProgram, SoundProgram, EvaluatesTo, BadNumber, Evaluated, initials, made, picture}
use Rattle.nml_target.specs.Target.{target}
use Rattle.nk_base.specs.declared.number.Ty.{Ty}
use Rattle.nk_base.specs.declared.number.Ty.TheVariants as ty
use Rattle.input_lines.specs.Input.{numbers}
use Rattle.input_port.specs.Port.{input_type}
use Rattle.c_tree.specs.declared.program.CTree.{CTree}
use Rattle.c_tree.specs.Meaning.{outcome}
use Rattle.c_tree.specs.Resolve.{resolved}
use Rattle.nml_suite.specs.Programs.{IsProgram}
use Rattle.nml_suite.specs.Described.{IsAccepted}
use Rattle.nml_types.specs.declared.checking.Summary.{Summary}
use Rattle.nml_reply.specs.Reading.{Reading, Got}
use Rattle.nml_reply.specs.Reply.{assembled, starved, unread, told_outcome}
use Rattle.nml_reply.specs.Refusals.{refused}
use Rattle.nml_reply.specs.declared.refusal.Refusal.{Refusal}
use Rattle.nml_suite.specs.Reading.{Store, IsShort, Asked, IsRead}
use Rattle.nml_suite.specs.Refusing.{settled, shown, summed, Settles, Arrives, IsUnread, IsReadAs, IsGraphOf, IsSummedUp, IsAssembledText, IsFound, IsShown, TellsRunOf, IsTargeted, IsCompiled, IsNumbered}
use Rattle.nml_suite.specs.Work.{Work, telling}
use Rattle.nml_suite.specs.declared.assemble.Assembled.{Assembled}
use Rattle.nml_suite.proofs.Images.{picture_is}
use Rattle.nml_suite.proofs.ReadRows.{reads_append}

led : (C G : Type 0) (w : Work) → (G → C) → G ⊎ (w ≡ telling starved) → C ⊎ (w ≡ telling starved)
led C G w f (inl g) = inl (f g)
led C G w f (inr e) = inr e

-- what the rest comes to, the whole comes to
pub arrived : (b m n : Store) (names rest : List (List ℕ)) (comes goes : List Asked → Work → Type 0) (w : Work)
    → Arrives b m names rest comes goes → Settles m n rest goes w → Settles b n names comes w
arrived b m n names rest comes goes w a s = record {
  asked = a.asked ++ s.asked;
  reads = reads_append b m n a.asked s.asked a.reads s.reads;
  named = a.named s.asked s.named;
  is = led (comes (a.asked ++ s.asked) w) (goes s.asked w) w (a.leads s.asked w) s.is;
}

pub both : (b m n : Store) (names rest last : List (List ℕ)) (comes goes went : List Asked → Work → Type 0)
    → Arrives b m names rest comes goes → Arrives m n rest last goes went → Arrives b n names last comes went
both b m n names rest last comes goes went a c = record {
  asked = a.asked ++ c.asked;
  reads = reads_append b m n a.asked c.asked a.reads c.reads;
  named = λ more h. subst (λ xs. AreNamed xs names) (sym (append_assoc a.asked c.asked more)) (a.named (c.asked ++ more) (c.named more h));
  leads = λ more w g. subst (λ xs. comes xs w) (sym (append_assoc a.asked c.asked more)) (a.leads (c.asked ++ more) w (c.leads more w g));
}

-- nothing more is read
pub here : (b : Store) (names : List (List ℕ)) (comes : List Asked → Work → Type 0) (w : Work) → comes [] w ⊎ (w ≡ telling starved) → Settles b b names comes w
here b names comes w is = record { asked = []; reads = refl; named = tt; is = is }

pub on : (b : Store) (names : List (List ℕ)) (comes goes : List Asked → Work → Type 0) → ((more : List Asked) (w : Work) → goes more w → comes more w)
    → Arrives b b names names comes goes
on b names comes goes f = record { asked = []; reads = refl; named = λ more h. h; leads = f }

-- ---- a file

pub opened : (b n : Store) (name bytes : List ℕ) (names : List (List ℕ)) (goes : List ℕ → List Asked → Work → Type 0) → IsRead b n name (Got bytes)
    → Arrives b n (name ∷ names) names (Opens name goes) (goes bytes)
opened b n name bytes names goes r = record {
  asked = (name, Got bytes) ∷ [];
  reads = (n, r, refl);
  named = λ more h. (refl, h);
  leads = λ more w g. Opened bytes more refl g;
}

short_or_starved : (name : List ℕ) (r : Reading) (goes : List ℕ → List Asked → Work → Type 0) (e : Refusal) → (IsShort r × (refused e ≡ unread name r)) ⊎ (refused e ≡ starved)
    → Opens name goes ((name, r) ∷ []) (telling (refused e)) ⊎ (telling (refused e) ≡ telling starved)
short_or_starved name r goes e (inl x) = inl (Short r refl x.0 (ap telling x.1))
short_or_starved name r goes e (inr x) = inr (ap telling x)

pub not_opened : (b n : Store) (name : List ℕ) (names : List (List ℕ)) (goes : List ℕ → List Asked → Work → Type 0) (e : Refusal) → IsUnread b n name (refused e)
    → Settles b n (name ∷ names) (Opens name goes) (telling (refused e))
not_opened b n name names goes e u = record {
  asked = (name, u.reading) ∷ [];
  reads = (n, u.read, refl);
  named = (refl, tt);
  is = short_or_starved name u.reading goes e u.is;
}

-- ---- a description

pub accepted : (b : Store) (names : List (List ℕ)) (name bytes : List ℕ) (tree : Desc) (goes : Desc → List Asked → Work → Type 0) → IsAccepted bytes tree
    → Arrives b b names names (Accepts name bytes goes) (goes tree)
accepted b names name bytes tree goes a = on b names _ (goes tree) (λ more w g. Accepted tree a g)

pub not_accepted : (b : Store) (names : List (List ℕ)) (name bytes : List ℕ) (e : Refusal) (goes : Desc → List Asked → Work → Type 0)
    → IsReadAs name bytes (Err e) → Settles b b names (Accepts name bytes goes) (telling (refused e))
not_accepted b names name bytes e goes (inl wants) = here b names _ _ (inr (ap telling wants))
not_accepted b names name bytes e goes (inr x) = here b names _ _ (inl (Faulty x.fault x.faulty (record { last = refl; is = ap telling x.is })))

-- as a machine
pub described : (b : Store) (names : List (List ℕ)) (name bytes : List ℕ) (g : Graph) (goes : Desc → ℕ → List Asked → Work → Type 0) → IsGraphOf name bytes (Ok g)
    → Arrives b b names names (Accepts name bytes (λ tree. Sizes tree (goes tree))) (goes g.desc g.word_bits)
described b names name bytes g goes h = on b names _ (goes g.desc g.word_bits) (λ more w go. Accepted g.desc h.0 (Sized g.word_bits h.1.word_bits_are go))

pub not_described : (b : Store) (names : List (List ℕ)) (name bytes : List ℕ) (e : Refusal) (goes : Desc → List Asked → Work → Type 0)
    → IsGraphOf name bytes (Err e) → Settles b b names (Accepts name bytes goes) (telling (refused e))
not_described b names name bytes e goes h = not_accepted b names name bytes e goes h

-- ---- `check`

pub summed_up : (b : Store) (name bytes : List ℕ) (tree : Desc) (r : Result Summary Refusal) → IsAccepted bytes tree → IsSummedUp tree r
    → Settles b b [] (Accepts name bytes SumsUp) (summed r)
summed_up b name bytes tree (Ok s) a h = here b [] _ _ (inl (Accepted tree a (Summed s.count s.width h (record { last = refl; is = refl }))))
summed_up b name bytes tree (Err e) a h = here b [] _ _ (inr (ap telling h))

-- ---- `asm`

-- what comes of an image and its file
made_is : (i : List ℕ) (all : Assembled) (p : Picture) → all.file.items ≡ file (picture_of all.image) → p ≡ picture_of all.image → settled i (Ok all) ≡ made i p
made_is i all p is same =
    ap (λ bytes. record { file = Some (record { name = i; bytes = bytes }); reply = assembled all.image.width all.image.words.items }) is ∙ ap (made i) (sym same)

pub assembled_text : (b : Store) (s i bytes : List ℕ) (g : Graph) (text : List ℕ) (r : Result Assembled Refusal) → IsAssembledText bytes g s text r
    → Settles b b [] (AssemblesTo s i bytes (table g.desc) g.word_bits text) (settled i r)
assembled_text b s i bytes g text (Ok all) z =
    let p = picture_of all.image in
    here b [] _ _ (inl (Words p.words (initials p) z.0.assembles refl (made_is i all (picture bytes g.word_bits p.words (initials p)) z.1 (picture_is g bytes text p z.0))))
assembled_text b s i bytes g text (Err e) (inl wants) = here b [] _ _ (inr (ap telling wants))
assembled_text b s i bytes g text (Err e) (inr z) = here b [] _ _ (inl (FaultyText z.fault z.some z.faulty (record { last = refl; is = ap telling z.is })))

-- ---- images

pub loaded : (b : Store) (names : List (List ℕ)) (name bytes : List ℕ) (g : Graph) (bits : List ℕ) (i : Image) (goes : Picture → List Asked → Work → Type 0)
    → IsFound bytes g name bits (Ok i) → Arrives b b names names (Loads name bytes (table g.desc) g.word_bits bits goes) (goes (picture_of i))
loaded b names name bytes g bits i goes h = on b names _ (goes (picture_of i)) (λ more w go. Loaded (picture_of i) h go)

pub not_loaded : (b : Store) (names : List (List ℕ)) (name bytes : List ℕ) (g : Graph) (bits : List ℕ) (e : Refusal) (goes : Picture → List Asked → Work → Type 0)
    → IsFound bytes g name bits (Err e) → Settles b b names (Loads name bytes (table g.desc) g.word_bits bits goes) (telling (refused e))
not_loaded b names name bytes g bits e goes (inl wants) = here b names _ _ (inr (ap telling wants))
not_loaded b names name bytes g bits e goes (inr x) = here b names _ _ (inl (FaultyImage x.fault x.some x.faulty (record { last = refl; is = ap telling x.is })))

-- ---- `dis`

pub shown_text : (b : Store) (g : Graph) (i : Picture) (r : Result (List ℕ) Refusal) → IsShown g i r → Settles b b [] (DisassemblesTo (table g.desc) g.word_bits i) (shown r)
shown_text b g i (Ok text) h = here b [] _ _ (inl (Shown text h (record { last = refl; is = refl })))
shown_text b g i (Err e) wants = here b [] _ _ (inr (ap telling wants))

-- ---- `run`

-- the input's type, of the description that was found
pub port_is : (port : Option Ty) (a b d : Desc) → port ≡ input_type (table a) → a ≡ b → b ≡ d → port ≡ input_type (table d)
port_is port a b d is e f = is ∙ ap (λ (x : Desc). input_type (table x)) (e ∙ f)

pub entered : (b : Store) (x : List ℕ) (steps : ℕ) (t : Table) (i : Picture) (text : List ℕ) (found : List ℤ) → numbers (input_type t) text ≡ Ok found
    → Arrives b b [] [] (RunsTo x steps t i text) (TellsRunOf steps t i found)
entered b x steps t i text found h = on b [] _ (TellsRunOf steps t i found) (λ more w r. Ran found h r.0 r.1 r.2)

pub not_entered : (b : Store) (x : List ℕ) (steps : ℕ) (t : Table) (i : Picture) (text : List ℕ) (e : Refusal) → IsNumbered x (input_type t) text (Err e)
    → Settles b b [] (RunsTo x steps t i text) (telling (refused e))
not_entered b x steps t i text e (inl wants) = here b [] _ _ (inr (ap telling wants))
not_entered b x steps t i text e (inr z) = here b [] _ _ (inl (Input z.line z.bad (record { last = refl; is = ap telling z.is })))

-- ---- `ceval`

pub targeted : (b : Store) (names : List (List ℕ)) (name : List ℕ) (tree : Desc) (n : ℕ) (goes : ℕ → List Asked → Work → Type 0) → target tree ≡ Ok n
    → Arrives b b names names (Targets name tree goes) (goes n)
targeted b names name tree n goes e = on b names _ (goes n) (λ more w g. Targeted n e g)

pub not_targeted : (b : Store) (names : List (List ℕ)) (name : List ℕ) (tree : Desc) (e : Refusal) (goes : ℕ → List Asked → Work → Type 0)
    → IsTargeted name tree (Err e) → Settles b b names (Targets name tree goes) (telling (refused e))
not_targeted b names name tree e goes (inl wants) = here b names _ _ (inr (ap telling wants))
not_targeted b names name tree e goes (inr x) = here b names _ _ (inl (NoTarget x.what x.lacks (record { last = refl; is = ap telling x.is })))

pub compiled : (b : Store) (names : List (List ℕ)) (name bytes : List ℕ) (n : ℕ) (tree : CTree) (goes : CTree → List Asked → Work → Type 0) → IsProgram bytes n tree
    → Arrives b b names names (Compiles name bytes n goes) (goes tree)
compiled b names name bytes n tree goes is = on b names _ (goes tree) (λ more w g. SoundProgram tree is g)

pub not_compiled : (b : Store) (names : List (List ℕ)) (name bytes : List ℕ) (n : ℕ) (e : Refusal) (goes : CTree → List Asked → Work → Type 0)
    → IsCompiled name bytes n (Err e) → Settles b b names (Compiles name bytes n goes) (telling (refused e))
not_compiled b names name bytes n e goes (inl wants) = here b names _ _ (inr (ap telling wants))
not_compiled b names name bytes n e goes (inr x) = here b names _ _ (inl (FaultyProgram x.fault x.faulty (record { last = refl; is = ap telling x.is })))

pub numbered : (b : Store) (x : List ℕ) (turns n bits : ℕ) (tree : CTree) (text : List ℕ) (found : List ℤ) → bits ≡ n → numbers (Some (ty.Int n)) text ≡ Ok found
    → Settles b b [] (EvaluatesTo x turns n tree text) (telling (told_outcome (outcome (resolved tree) bits found turns)))
numbered b x turns n bits tree text found same is =
    here b [] _ _ (inl (Evaluated found is (record { last = refl; is = ap (λ k. telling (told_outcome (outcome (resolved tree) k found turns))) same })))

pub not_numbered : (b : Store) (x : List ℕ) (turns n : ℕ) (tree : CTree) (text : List ℕ) (e : Refusal) → IsNumbered x (Some (ty.Int n)) text (Err e)
    → Settles b b [] (EvaluatesTo x turns n tree text) (telling (refused e))
not_numbered b x turns n tree text e (inl wants) = here b [] _ _ (inr (ap telling wants))
not_numbered b x turns n tree text e (inr z) = here b [] _ _ (inl (BadNumber z.line z.bad (record { last = refl; is = ap telling z.is })))
