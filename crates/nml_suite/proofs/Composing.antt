-- The commands compose.
use Rattle.std.proofs.Common.{◌≡◌, ℕ, List, [], ◌∷◌, map, Some, refl, sym, ap, ◌∙◌, subst}
use Rattle.sha2.specs.Sha256.{sha256}
use Rattle.nml_tree.specs.declared.tree.Desc.{Desc}
use Rattle.nml_tree.specs.Machine.{Initial}
use Rattle.nml_tree.specs.Refused.{IsChecked}
use Rattle.nml_tree.specs.Table.{table}
use Rattle.nml_tree.specs.Valid.{IsWordWidth}
use Rattle.image_file.specs.File.{Picture, file}
use Rattle.image_file.specs.Measured.{measures, stored, initial}
use Rattle.image_file.specs.Valid.{IsImageOf}
use Rattle.asm_text.specs.Answer.{IsAssembled}
use Rattle.asm_text.specs.Canonical.{IsCanonical}
use Rattle.asm_text.proofs.OneAnswer.{one_words, apart}
use Rattle.asm_text.proofs.Right.{right}
use Rattle.asm_text.proofs.ReadNames.{storage_names}
use Rattle.asm_text.proofs.RoundTrip.{round_trip}
use Rattle.nml_reply.specs.Reading.{Reading, Got, Unread}
use Rattle.nml_reply.specs.Reply.{Reply, disassembled}
use Rattle.nml_suite.specs.Coming.{EndsWith, Opens, Short, Opened, Accepts, Faulty, Accepted, Sizes, Sized, AssemblesTo, FaultyText, Words, Loads, FaultyImage, Loaded, DisassemblesTo, Shown, AsmComesTo, picture, made}
use Rattle.nml_suite.specs.Composed.{two_files, Makes, IsProgramOf, RunsFile, RunsText, ShowsFile, ShowsText, AssemblesFile}
use Rattle.nml_suite.specs.Described.{IsAccepted}
use Rattle.nml_suite.specs.Reading.{IsShort, Asked}
use Rattle.nml_suite.specs.Work.{Work, Written, telling}
use Rattle.nml_suite.proofs.OneFault.{no_fault, one_accepted}
use Rattle.nml_suite.proofs.OneWork.{one_width, one_image, no_image_fault}
use Rattle.nml_suite.proofs.SomeWork.{some_shown, some_told}

same_bytes : {a b : List ℕ} → Got a ≡ Got b → a ≡ b
same_bytes e = cc

same_list : {A : Type 0} {a b : A} {xs ys : List A} → a ∷ xs ≡ b ∷ ys → xs ≡ ys
same_list e = cc

-- ---- the steps, where what is looked at is known

-- the first read gave these bytes, and these are the others
got_first : (name bytes other : List ℕ) (xs more : List Asked) → (name, Got bytes) ∷ xs ≡ (name, Got other) ∷ more → bytes ≡ other
got_first name bytes other xs more e = same_bytes (ap (λ ys. reading_at ys) e)
  where
    reading_at : List Asked → Reading
    reading_at [] = Unread
    reading_at (one ∷ more) = one.1

not_short : (name bytes : List ℕ) (xs : List Asked) (r : Reading) → (name, Got bytes) ∷ xs ≡ (name, r) ∷ [] → IsShort r → ⊥
not_short name bytes xs r e h = subst IsShort (sym (ap (λ ys. reading_at ys) e)) h
  where
    reading_at : List Asked → Reading
    reading_at [] = Unread
    reading_at (one ∷ more) = one.1

-- where a file gave these bytes, the call goes on with them
goes_on : (name bytes : List ℕ) (xs : List Asked) (goes : List ℕ → List Asked → Work → Type 0) (w : Work) → Opens name goes ((name, Got bytes) ∷ xs) w → goes bytes xs w
goes_on name bytes xs goes w (Short r e short is) = absurd (not_short name bytes xs r e short)
goes_on name bytes xs goes w (Opened other more e g) =
    subst (λ b. goes b xs w) (sym (got_first name bytes other xs more e)) (subst (λ ys. goes other ys w) (sym (same_list e)) g)

-- where bytes are accepted, with their tree
accepted_on : (name bytes : List ℕ) (tree : Desc) (goes : Desc → List Asked → Work → Type 0) (xs : List Asked) (w : Work) → IsAccepted bytes tree
    → Accepts name bytes goes xs w → goes tree xs w
accepted_on name bytes tree goes xs w is (Faulty f h e) = absurd (no_fault bytes tree f is h)
accepted_on name bytes tree goes xs w is (Accepted other a g) = subst (λ z. goes z xs w) (one_accepted bytes other tree a is) g

-- where words have so many bits, with these
sized_on : (tree : Desc) (width : ℕ) (goes : ℕ → List Asked → Work → Type 0) (xs : List Asked) (w : Work) → IsChecked tree → IsWordWidth (table tree) width
    → Sizes tree goes xs w → goes width xs w
sized_on tree width goes xs w checked is (Sized other a g) = subst (λ z. goes z xs w) (one_width tree other width checked a is) g

-- where bits are an image, with it
loaded_on : (name bytes : List ℕ) (tree : Desc) (width : ℕ) (bits : List ℕ) (i : Picture) (goes : Picture → List Asked → Work → Type 0) (xs : List Asked) (w : Work)
    → IsChecked tree → IsWordWidth (table tree) width → IsImageOf (measures (table tree) width) (sha256 bytes) bits i → Loads name bytes (table tree) width bits goes xs w
    → goes i xs w
loaded_on name bytes tree width bits i goes xs w checked wide is (FaultyImage f some h e) = absurd (no_image_fault bytes tree width bits i f checked wide is some h)
loaded_on name bytes tree width bits i goes xs w checked wide is (Loaded other a g) =
    subst (λ z. goes z xs w) (one_image bytes tree width bits other i checked wide a is) g

-- ---- the file of a text

-- what the file is of
record IsOf (bytes text : List ℕ) (f : Written) : Type 0 where
  program : IsProgramOf bytes text
  is : f.bytes ≡ file (picture bytes program.width program.words program.inits)

ends_without : {A : Type 0} (o : Reply) (xs : List Asked) (w : Work) (f : Written) → EndsWith o xs w → w.file ≡ Some f → A
ends_without o xs w f e is = absurd (cc (e.is, is))

text_is : (s i bytes : List ℕ) (tree : Desc) (width : ℕ) (text : List ℕ) (xs : List Asked) (w : Work) (f : Written) → IsAccepted bytes tree → IsWordWidth (table tree) width
    → AssemblesTo s i bytes (table tree) width text xs w → w.file ≡ Some f → IsOf bytes text f
text_is s i bytes tree width text xs w f a wide (FaultyText fault some h e) is = ends_without _ xs w f e is
text_is s i bytes tree width text xs w f a wide (Words words inits h last e) is =
    let g : Written = record { name = i; bytes = file (picture bytes width words inits) } in
    let p : g ≡ f = cc (sym (ap (λ (k : Work). k.file) e) ∙ is) in
    record {
      program = record { tree = tree; is = a; width = width; word_width = wide; words = words; inits = inits; assembles = h };
      is = ap (λ (k : Written). k.bytes) (sym p);
    }

size_is : (s i bytes text : List ℕ) (tree : Desc) (xs : List Asked) (w : Work) (f : Written) → IsAccepted bytes tree
    → Sizes tree (λ width. Opens s (AssemblesTo s i bytes (table tree) width)) ((s, Got text) ∷ xs) w → w.file ≡ Some f → IsOf bytes text f
size_is s i bytes text tree xs w f a (Sized width wide g) is = text_is s i bytes tree width text xs w f a wide (goes_on s text xs _ w g) is

bytes_are : (name s i bytes text : List ℕ) (xs : List Asked) (w : Work) (f : Written)
    → Accepts name bytes (λ tree. Sizes tree (λ width. Opens s (AssemblesTo s i bytes (table tree) width))) ((s, Got text) ∷ xs) w → w.file ≡ Some f → IsOf bytes text f
bytes_are name s i bytes text xs w f (Faulty g h e) is = ends_without _ _ w f e is
bytes_are name s i bytes text xs w f (Accepted tree a g) is = size_is s i bytes text tree xs w f a g is

asm_is : (name s i bytes text : List ℕ) (w : Work) (f : Written) → AsmComesTo name s i (two_files name bytes s text) w → w.file ≡ Some f → IsOf bytes text f
asm_is name s i bytes text w f g is = bytes_are name s i bytes text [] w f (goes_on name bytes _ _ w g) is

made_of : (bytes text : List ℕ) (f : Written) → Makes bytes text f → IsOf bytes text f
made_of bytes text f m = asm_is m.description m.source m.image bytes text m.work f m.comes m.wrote

-- the image of a program
abbrev image_of : (bytes text : List ℕ) → IsProgramOf bytes text → Picture
image_of bytes text p = picture bytes p.width p.words p.inits

-- the file is this image's
is_image : (bytes text : List ℕ) (f : Written) (o : IsOf bytes text f)
    → IsImageOf (measures (table o.program.tree) o.program.width) (sha256 bytes) f.bytes (image_of bytes text o.program)
is_image bytes text f o = record {
  valid = right o.program.tree o.program.width text o.program.words o.program.inits o.program.is.right o.program.word_width o.program.assembles (sha256 bytes);
  digest_is = refl;
  bytes_are = o.is;
}

initials_back : (inits : List Initial) → map initial (map stored inits) ≡ inits
initials_back [] = refl
initials_back (i ∷ inits) = ap (λ xs. i ∷ xs) (initials_back inits)

-- ---- `run`

pub some_run : (d i x bytes text entry : List ℕ) (steps : ℕ) (f : Written) → Makes bytes text f → ((w : Work) → RunsFile d i x bytes entry steps f w → ⊥) → ⊥
some_run d i x bytes text entry steps f m none =
    let o = made_of bytes text f m in
    let p = o.program in
    some_told x steps (table p.tree) (image_of bytes text p) entry
    (λ w runs. none w (Opened bytes _ refl (Accepted p.tree p.is (Sized p.width p.word_width (Opened f.bytes _ refl (Loaded (image_of bytes text p) (is_image bytes text f o) (Opened entry [] refl runs)))))))

pub only_run : (d i x bytes text entry : List ℕ) (steps : ℕ) (f : Written) (w : Work) → Makes bytes text f → RunsFile d i x bytes entry steps f w
    → RunsText x bytes text entry steps w
only_run d i x bytes text entry steps f w m g =
    let o = made_of bytes text f m in
    let p = o.program in
    let sized = accepted_on d bytes p.tree _ _ w p.is (goes_on d bytes _ _ w g) in
    let opened = sized_on p.tree p.width _ _ w p.is.right p.word_width sized in
    let loaded = loaded_on i bytes p.tree p.width f.bytes (image_of bytes text p) _ _ w p.is.right p.word_width (is_image bytes text f o) (goes_on i f.bytes _ _ w opened) in
    record { program = p; runs = goes_on x entry [] _ w loaded }

-- ---- `dis`

pub some_text : (d i bytes text : List ℕ) (f : Written) → Makes bytes text f → ((w : Work) → ShowsFile d i bytes f w → ⊥) → ⊥
some_text d i bytes text f m none =
    let o = made_of bytes text f m in
    let p = o.program in
    some_shown p.tree p.width (image_of bytes text p)
    (λ w shows. none w (Opened bytes _ refl (Accepted p.tree p.is (Sized p.width p.word_width (Opened f.bytes [] refl (Loaded (image_of bytes text p) (is_image bytes text f o) shows))))))

-- what is shown of a program
record IsShown (bytes text : List ℕ) (p : IsProgramOf bytes text) (w : Work) : Type 0 where
  shown : List ℕ
  canonical : IsCanonical (table p.tree) p.width p.words p.inits shown
  is : w ≡ telling (disassembled shown)

shown_is : (bytes text : List ℕ) (p : IsProgramOf bytes text) (w : Work) → DisassemblesTo (table p.tree) p.width (image_of bytes text p) [] w → IsShown bytes text p w
shown_is bytes text p w (Shown shown h e) =
    record { shown = shown; canonical = subst (λ inits. IsCanonical (table p.tree) p.width p.words inits shown) (initials_back p.inits) h; is = e.is }

file_shown : (d i bytes text : List ℕ) (f : Written) (o : IsOf bytes text f) (w : Work) → ShowsFile d i bytes f w → IsShown bytes text o.program w
file_shown d i bytes text f o w g =
    let p = o.program in
    let sized = accepted_on d bytes p.tree _ _ w p.is (goes_on d bytes _ _ w g) in
    let opened = sized_on p.tree p.width _ _ w p.is.right p.word_width sized in
    let loaded = loaded_on i bytes p.tree p.width f.bytes (image_of bytes text p) _ _ w p.is.right p.word_width (is_image bytes text f o) (goes_on i f.bytes _ _ w opened) in
    shown_is bytes text p w loaded

pub only_text : (d i bytes text : List ℕ) (f : Written) (w : Work) → Makes bytes text f → ShowsFile d i bytes f w → ShowsText bytes text w
only_text d i bytes text f w m g =
    let o = made_of bytes text f m in
    let h = file_shown d i bytes text f o w g in
    record { program = o.program; shown = h.shown; canonical = h.canonical; is = h.is }

-- ---- `asm` of what `dis` told

-- the text that is shown is assembled to the program
assembled_back : (bytes text : List ℕ) (p : IsProgramOf bytes text) (w : Work) (h : IsShown bytes text p w) → IsAssembled (table p.tree) p.width w.reply.text p.words p.inits
assembled_back bytes text p w h =
    let checked = p.is.right in
    let back = round_trip p.tree p.width p.words h.shown p.inits checked (storage_names p.tree bytes p.is.spelled.is) p.word_width
    (right p.tree p.width text p.words p.inits checked p.word_width p.assembles) h.canonical in
    subst (λ (v : Work). IsAssembled (table p.tree) p.width v.reply.text p.words p.inits) (sym h.is) back

-- the file of the image under another name
same_file : (bytes text j : List ℕ) (f : Written) (o : IsOf bytes text f) → (made j (image_of bytes text o.program)).file ≡ Some (record { name = j; bytes = f.bytes })
same_file bytes text j f o = ap (λ (b : List ℕ). Some (record { name = j; bytes = b })) (sym o.is)

pub again : (d i s j bytes text : List ℕ) (f : Written) (w : Work) → Makes bytes text f → ShowsFile d i bytes f w
    → (v : Work) × AssemblesFile d s j bytes w.reply.text v × (v.file ≡ Some (record { name = j; bytes = f.bytes }))
again d i s j bytes text f w m g =
    let o = made_of bytes text f m in
    let p = o.program in
    let back = assembled_back bytes text p w (file_shown d i bytes text f o w g) in
    (made j (image_of bytes text p), Opened bytes _ refl (Accepted p.tree p.is (Sized p.width p.word_width (Opened w.reply.text [] refl (Words p.words p.inits back refl refl)))), same_file bytes text j f o)

-- a text that is assembled to the program makes no other file
assembled_file : (s j bytes text other : List ℕ) (f : Written) (o : IsOf bytes text f) (v : Work) → IsAssembled (table o.program.tree) o.program.width other o.program.words o.program.inits
    → AssemblesTo s j bytes (table o.program.tree) o.program.width other [] v → v.file ≡ Some (record { name = j; bytes = f.bytes })
assembled_file s j bytes text other f o v is (FaultyText fault some h e) =
    absurd (some (apart o.program.tree o.program.width other o.program.words o.program.inits fault is h))
assembled_file s j bytes text other f o v is (Words words inits h last e) =
    let p = o.program in
    let same = one_words p.tree p.width other words p.words inits p.inits p.is.right h is in
    let moved : made j (picture bytes p.width words inits) ≡ made j (image_of bytes text p) = λ k. made j (picture bytes p.width (same.0 k) (same.1 k)) in
    ap (λ (u : Work). u.file) (e ∙ moved) ∙ same_file bytes text j f o

pub back : (d i s j bytes text : List ℕ) (f : Written) (w v : Work) → Makes bytes text f → ShowsFile d i bytes f w → AssemblesFile d s j bytes w.reply.text v
    → v.file ≡ Some (record { name = j; bytes = f.bytes })
back d i s j bytes text f w v m g a =
    let o = made_of bytes text f m in
    let p = o.program in
    let is = assembled_back bytes text p w (file_shown d i bytes text f o w g) in
    let sized = accepted_on d bytes p.tree _ _ v p.is (goes_on d bytes _ _ v a) in
    let opened = sized_on p.tree p.width _ _ v p.is.right p.word_width sized in
    assembled_file s j bytes text w.reply.text f o v is (goes_on s w.reply.text [] _ v opened)
