-- What holds of each work that words come to, step by step.
use Rattle.std.proofs.Common.{◌≡◌, ℕ, List, [], ◌∷◌, Option, Some, None, sym, ap, subst}
use Rattle.nml_tree.specs.declared.tree.Desc.{Desc}
use Rattle.nml_tree.specs.Table.{Table, table}
use Rattle.image_file.specs.File.{Picture}
use Rattle.nml_suite.specs.Coming.{EndsWith, SumsUp, Summed, Opens, Short, Opened, Accepts, Faulty, Accepted, Sizes, Sized, AssemblesTo, FaultyText, Words, Loads, FaultyImage, Loaded, DisassemblesTo, Shown, RunsTo, Input, Ran, Targets, NoTarget, Targeted, Compiles, FaultyProgram, SoundProgram, EvaluatesTo, BadNumber, Evaluated, ComesTo}
use Rattle.c_tree.specs.declared.program.CTree.{CTree}
use Rattle.nml_command.specs.Form.{Form, Check, Asm, Dis, Run, Cc, Ceval, Demo}
use Rattle.nml_reply.specs.Reading.{Reading, Unread}
use Rattle.nml_reply.specs.Reply.{Reply}
use Rattle.nml_reply.specs.declared.status.Status.TheVariants as statuses
use Rattle.nml_suite.specs.Reading.{IsShort, Asked}
use Rattle.nml_suite.specs.Work.{Work, Written, telling}

-- no read wanted memory
abbrev pub NoneUnread : List Asked → Type 0
NoneUnread [] = Unit {0}
NoneUnread (one ∷ more) = (one.1 ≡ Unread → ⊥) × NoneUnread more

-- a work with a file ends well
abbrev IsDone : Work → Type 0
IsDone w = (f : Written) → w.file ≡ Some f → w.reply.status ≡ statuses.Done

-- what the reads and the work of any words are
pub record IsSound (asked : List Asked) (work : Work) : Type 0 where
  pub told : NoneUnread asked
  pub done : IsDone work

telling_done : (w : Work) (o : Reply) → w ≡ telling o → IsDone w
telling_done w o e f is = absurd (cc (e, is))

ends_sound : (o : Reply) (xs : List Asked) (w : Work) → EndsWith o xs w → IsSound xs w
ends_sound o xs w e = record { told = subst NoneUnread (sym e.last) tt; done = telling_done w o e.is }

short_told : (r : Reading) → IsShort r → r ≡ Unread → ⊥
short_told r h e = subst IsShort e h

opens_sound : (name : List ℕ) (goes : List ℕ → List Asked → Work → Type 0) (xs : List Asked) (w : Work) → ((bytes : List ℕ) (more : List Asked) → goes bytes more w → IsSound more w)
    → Opens name goes xs w → IsSound xs w
opens_sound name goes xs w h (Short r e short is) =
    record { told = subst NoneUnread (sym e) (λ u. short_told r short u, tt); done = telling_done w _ is }
opens_sound name goes xs w h (Opened bytes more e g) =
    let s = h bytes more g in record { told = subst NoneUnread (sym e) (λ u. absurd (cc u), s.told); done = s.done }

accepts_sound : (name bytes : List ℕ) (goes : Desc → List Asked → Work → Type 0) (xs : List Asked) (w : Work) → ((tree : Desc) → goes tree xs w → IsSound xs w)
    → Accepts name bytes goes xs w → IsSound xs w
accepts_sound name bytes goes xs w h (Faulty fault x e) = ends_sound _ xs w e
accepts_sound name bytes goes xs w h (Accepted tree a g) = h tree g

sizes_sound : (tree : Desc) (goes : ℕ → List Asked → Work → Type 0) (xs : List Asked) (w : Work) → ((width : ℕ) → goes width xs w → IsSound xs w) → Sizes tree goes xs w → IsSound xs w
sizes_sound tree goes xs w h (Sized width is g) = h width g

sums_sound : (tree : Desc) (xs : List Asked) (w : Work) → SumsUp tree xs w → IsSound xs w
sums_sound tree xs w (Summed count width s e) = ends_sound _ xs w e

text_sound : (name image bytes : List ℕ) (t : Table) (width : ℕ) (text : List ℕ) (xs : List Asked) (w : Work) → AssemblesTo name image bytes t width text xs w → IsSound xs w
text_sound name image bytes t width text xs w (FaultyText fault some x e) = ends_sound _ xs w e
text_sound name image bytes t width text xs w (Words words inits h last e) =
    record { told = subst NoneUnread (sym last) tt; done = λ f is. ap (λ (k : Work). k.reply.status) e }

loads_sound : (name bytes : List ℕ) (t : Table) (width : ℕ) (bits : List ℕ) (goes : Picture → List Asked → Work → Type 0) (xs : List Asked) (w : Work)
    → ((i : Picture) → goes i xs w → IsSound xs w) → Loads name bytes t width bits goes xs w → IsSound xs w
loads_sound name bytes t width bits goes xs w h (FaultyImage fault some x e) = ends_sound _ xs w e
loads_sound name bytes t width bits goes xs w h (Loaded i is g) = h i g

shows_sound : (t : Table) (width : ℕ) (i : Picture) (xs : List Asked) (w : Work) → DisassemblesTo t width i xs w → IsSound xs w
shows_sound t width i xs w (Shown text is e) = ends_sound _ xs w e

runs_sound : (x : List ℕ) (steps : ℕ) (t : Table) (i : Picture) (text : List ℕ) (xs : List Asked) (w : Work) → RunsTo x steps t i text xs w → IsSound xs w
runs_sound x steps t i text xs w (Input line is e) = ends_sound _ xs w e
runs_sound x steps t i text xs w (Ran found is r runs e) = ends_sound _ xs w e

targets_sound : (name : List ℕ) (tree : Desc) (goes : ℕ → List Asked → Work → Type 0) (xs : List Asked) (w : Work) → ((n : ℕ) → goes n xs w → IsSound xs w)
    → Targets name tree goes xs w → IsSound xs w
targets_sound name tree goes xs w h (NoTarget what e is) = ends_sound _ xs w is
targets_sound name tree goes xs w h (Targeted n e g) = h n g

compiles_sound : (name bytes : List ℕ) (n : ℕ) (goes : CTree → List Asked → Work → Type 0) (xs : List Asked) (w : Work) → ((tree : CTree) → goes tree xs w → IsSound xs w)
    → Compiles name bytes n goes xs w → IsSound xs w
compiles_sound name bytes n goes xs w h (FaultyProgram fault x e) = ends_sound _ xs w e
compiles_sound name bytes n goes xs w h (SoundProgram tree is g) = h tree g

evaluates_sound : (x : List ℕ) (turns n : ℕ) (tree : CTree) (text : List ℕ) (xs : List Asked) (w : Work) → EvaluatesTo x turns n tree text xs w → IsSound xs w
evaluates_sound x turns n tree text xs w (BadNumber line is e) = ends_sound _ xs w e
evaluates_sound x turns n tree text xs w (Evaluated found is e) = ends_sound _ xs w e

pub sound : (form : Option Form) (xs : List Asked) (w : Work) → ComesTo form xs w → IsSound xs w
sound None xs w e = ends_sound _ xs w e
sound (Some (Check d)) xs w g = opens_sound d _ xs w (λ bytes more. accepts_sound d bytes _ more w (λ tree. sums_sound tree more w)) g
sound (Some (Asm d s i)) xs w g =
    opens_sound d _ xs w
    (λ bytes more. accepts_sound d bytes _ more w
    (λ tree. sizes_sound tree _ more w
    (λ width. opens_sound s _ more w (λ text rest. text_sound s i bytes (table tree) width text rest w))))
    g
sound (Some (Dis d i)) xs w g =
    opens_sound d _ xs w
    (λ bytes more. accepts_sound d bytes _ more w
    (λ tree. sizes_sound tree _ more w
    (λ width. opens_sound i _ more w
    (λ bits rest. loads_sound i bytes (table tree) width bits _ rest w (λ p. shows_sound (table tree) width p rest w)))))
    g
sound (Some (Run d i x n)) xs w g =
    opens_sound d _ xs w
    (λ bytes more. accepts_sound d bytes _ more w
    (λ tree. sizes_sound tree _ more w
    (λ width. opens_sound i _ more w
    (λ bits rest. loads_sound i bytes (table tree) width bits _ rest w
    (λ p. opens_sound x _ rest w (λ text last. runs_sound x n (table tree) p text last w))))))
    g
sound (Some (Cc d s i)) xs w e = ends_sound _ xs w e
sound (Some (Ceval d s x turns)) xs w g =
    opens_sound d _ xs w
    (λ bytes more. accepts_sound d bytes _ more w
    (λ tree. targets_sound d tree _ more w
    (λ n. opens_sound s _ more w
    (λ text rest. compiles_sound s text n _ rest w
    (λ program. opens_sound x _ rest w (λ entry last. evaluates_sound x turns n program entry last w))))))
    g
sound (Some (Demo k)) xs w e = ends_sound _ xs w e
