-- When each answer of the top call comes, from what it answers.
use Rattle.std.proofs.Common.{◌≡◌, ◌⊎◌, ◌≤◌, ◌+◌, ℕ, zero, suc, List, [], ◌∷◌, map, ℤ, pos, negsuc, Ok, length, Option, Some, None, refl, sym, ap, ◌∙◌, subst, inl, inr, arith}
use Rattle.std.specs.Prelude.{slice_get}
use Rattle.sha2.specs.Sha256.{sha256}
use Rattle.nk_outside.specs.Held.{Reads}
use Rattle.nk_outside.specs.Taken.{Took}
use Rattle.nml_tree.specs.declared.tree.Desc.{Desc}
use Rattle.nml_tree.specs.Machine.{Initial, RunOutcome, RunsImage, Stop, Running, Halted, Wanted, NoWord, BadWord}
use Rattle.nml_tree.specs.Table.{Table, table}
use Rattle.nml_tree.specs.Valid.{IsWordWidth}
use Rattle.image_file.specs.File.{Picture, Init}
use Rattle.image_file.specs.Measured.{measures, stored, initial}
use Rattle.image_file.specs.Valid.{IsValid, IsImageOf}
use Rattle.image_file.proofs.OneFile.{init_is}
use Rattle.asm_text.specs.Answer.{IsAssembled, AreRight}
use Rattle.asm_text.specs.Canonical.{IsCanonical}
use Rattle.asm_text.proofs.ReadNames.{storage_names}
use Rattle.asm_text.proofs.Right.{right}
use Rattle.asm_text.proofs.RoundTrip.{round_trip}
use Rattle.nml_suite.specs.Answer.{Moment, Answers}
use Rattle.nml_suite.specs.Cause.{HasCause, HasBytes, HasDescription, HasImageFile, HasImage, HasMachine, HasTree, HasSource, HasProgram, outcome_of, IsUsage}
use Rattle.nml_suite.specs.Coming.{EndsWith, SumsUp, Summed, Opens, Short, Opened, Accepts, Faulty, Accepted, Sizes, Sized, AssemblesTo, FaultyText, Words, Loads, FaultyImage, Loaded, initials, DisassemblesTo, Shown, RunsTo, Input, Ran, Targets, NoTarget, Targeted, Compiles, FaultyProgram, SoundProgram, EvaluatesTo, BadNumber, Evaluated, CheckComesTo, AsmComesTo, DisComesTo, RunComesTo, CevalComesTo, ComesTo}
use Rattle.nml_suite.specs.Described.{IsAccepted}
use Rattle.nml_suite.specs.Files.{HaveCauses, Leaves}
use Rattle.nml_target.specs.Target.{target}
use Rattle.nk_base.specs.declared.number.Ty.TheVariants as ty
use Rattle.input_lines.specs.Input.{numbers}
use Rattle.input_port.specs.Port.{input_type}
use Rattle.nk_outside.specs.declared.stop.Stop as outside
use Rattle.nk_outside.specs.declared.stop.Stop.TheVariants as ends
use Rattle.c_tree.specs.declared.program.CTree.{CTree}
use Rattle.nml_suite.specs.Programs.{IsProgram}
use Rattle.nml_command.specs.Form.{Form, Check, Asm, Dis, Run, Cc, Ceval, Demo, named_to_read}
use Rattle.nml_reply.specs.Reading.{Reading, Got, Absent, Failed, TooLong, Unread}
use Rattle.nml_reply.specs.Reply.{Reply, unread, starved, not_built, stop_status, told_run, ending_status, told_outcome}
use Rattle.nml_reply.specs.Told.{Told, Whole, Cut, Starved, CutStarved, EndsIn}
use Rattle.nml_reply.specs.declared.status.Status.{Status}
use Rattle.nml_reply.specs.declared.status.Status.TheVariants as statuses
use Rattle.nml_suite.specs.Reading.{Store, IsShort, HasReading, Asked}
use Rattle.nml_suite.specs.Work.{Work, telling, Filed, Kept}
use Rattle.nml_suite.specs.Work as works
use Rattle.nml_suite.proofs.Filing.{calls_without, counted_by, leaves_of}
use Rattle.nml_suite.proofs.ReadRows.{Later, causes, reads_later}

-- ---- canonical texts

-- initial values are the same once stored again
pub stored_back : (is : List Init) → map stored (map initial is) ≡ is
stored_back [] = refl
stored_back (i ∷ is) = ap (λ (j : Init). j ∷ map stored (map initial is)) (init_is (stored (initial i)) i refl refl refl) ∙ ap (λ js. i ∷ js) (stored_back is)

-- the words and the initial values of a valid image are right, whatever digest an image of them carries
pub right_of : (t : Table) (width : ℕ) (i : Picture) → IsValid (measures t width) i → AreRight t width i.words (initials i)
right_of t width i v digest =
    subst (λ is. IsValid (measures t width) (record { digest = digest; width = width; words = i.words; inits = is })) (sym (stored_back i.inits))
    (record { width_is = refl; count = v.count; fit = v.fit; cells = v.cells; order = v.order })

-- on a description that is accepted, a canonical text of what is right is assembled to just that
pub assembled_back : (bytes : List ℕ) (tree : Desc) (width : ℕ) (words text : List ℕ) (inits : List Initial) → IsAccepted bytes tree → IsWordWidth (table tree) width → AreRight (table tree) width words inits
    → IsCanonical (table tree) width words inits text → IsAssembled (table tree) width text words inits
assembled_back bytes tree width words text inits a wide good c = round_trip tree width words text inits a.right (storage_names tree bytes a.spelled.is) wide good c

-- ---- causes

-- a call that told the whole text has its cause
abbrev Owes : Moment → Moment → Option Form → Reply → Type 0
Owes b n form o = Took b.taken n.taken o.text → HasCause b n form o.status

-- where the call ends with this
ends_owe : (b n : Moment) (form : Option Form) (xs : List Asked) (w : Work) (o : Reply) → EndsWith o xs w → Owes b n form o → Owes b n form w.reply
ends_owe b n form xs w o e h = subst (λ x. Owes b n form x.reply) (sym e.is) h

-- what the calls of a work without a file are, behind so many reads
abbrev CallsBehind : Moment → Moment → ℕ → List Asked → Work → Type 0
CallsBehind b n k xs w = w.file ≡ None → n.store.counts.calls ≤ b.store.counts.calls + (k + length xs)

fewer : (b n : Moment) (k : ℕ) (x : Asked) (xs : List Asked) (w : Work) → CallsBehind b n k (x ∷ xs) w → CallsBehind b n (suc k) xs w
fewer b n k x xs w h e = omega (arith, h e)

-- ---- the steps

short_owes : (b n : Moment) (form : Option Form) (k : ℕ) (name : List ℕ) (r : Reading) → slice_get (named_to_read form) k ≡ Some name → n.store.counts.calls ≤ b.store.counts.calls + suc k
    → IsShort r → HasReading b.store.held b.store.counts n.store.counts name r → Owes b n form (unread name r)
short_owes b n form k name (Got bytes) named calls short c = absurd short
short_owes b n form k name Absent named calls short c = λ t. inl (record { file = record { name = name; place = k; named = named; calls = calls; told = t }; lacks = c.0; rose = c.1 })
short_owes b n form k name Failed named calls short c = λ t. inr (record { file = record { name = name; place = k; named = named; calls = calls; told = t }; rose = c })
short_owes b n form k name TooLong named calls short c = λ t. record { file = record { name = name; place = k; named = named; calls = calls; told = t }; long = c }
short_owes b n form k name Unread named calls short c = absurd short

opens_owe : (b n : Moment) (form : Option Form) (k : ℕ) (name : List ℕ) (goes : List ℕ → List Asked → Work → Type 0) (xs : List Asked) (w : Work)
    → slice_get (named_to_read form) k ≡ Some name → CallsBehind b n k xs w → HaveCauses b.store n.store xs
    → ((bytes : List ℕ) (more : List Asked) → Reads b.store.held name bytes → CallsBehind b n (suc k) more w → HaveCauses b.store n.store more → goes bytes more w → Owes b n form w.reply)
    → Opens name goes xs w → Owes b n form w.reply
opens_owe b n form k name goes xs w named calls c h (Short r e short is) =
    let d : HaveCauses b.store n.store ((name, r) ∷ []) = subst (HaveCauses b.store n.store) e c in
    let m : CallsBehind b n k ((name, r) ∷ []) w = subst (λ ys. CallsBehind b n k ys w) e calls in
    subst (λ x. Owes b n form x.reply) (sym is) (short_owes b n form k name r named (omega (arith, m (ap (λ x. x.file) is))) short d.0)
opens_owe b n form k name goes xs w named calls c h (Opened bytes more e g) =
    let d : HaveCauses b.store n.store ((name, Got bytes) ∷ more) = subst (HaveCauses b.store n.store) e c in
    let m : CallsBehind b n k ((name, Got bytes) ∷ more) w = subst (λ ys. CallsBehind b n k ys w) e calls in
    h bytes more d.0 (fewer b n k (name, Got bytes) more w m) d.1 g

accepts_owe : (b n : Moment) (form : Option Form) (f : HasBytes b form 0) (goes : Desc → List Asked → Work → Type 0) (xs : List Asked) (w : Work)
    → ((tree : Desc) → IsAccepted f.bytes tree → goes tree xs w → Owes b n form w.reply) → Accepts f.name f.bytes goes xs w → Owes b n form w.reply
accepts_owe b n form f goes xs w h (Faulty fault x e) = ends_owe b n form xs w _ e (λ t. record { file = f; fault = fault; faulty = x; told = t })
accepts_owe b n form f goes xs w h (Accepted tree a g) = h tree a g

sizes_owe : (b n : Moment) (form : Option Form) (tree : Desc) (goes : ℕ → List Asked → Work → Type 0) (xs : List Asked) (w : Work)
    → ((width : ℕ) → IsWordWidth (table tree) width → goes width xs w → Owes b n form w.reply) → Sizes tree goes xs w → Owes b n form w.reply
sizes_owe b n form tree goes xs w h (Sized width is g) = h width is g

-- ---- `check`

sums_owe : (b n : Moment) (d : List ℕ) (f : HasBytes b (Some (Check d)) 0) (tree : Desc) (xs : List Asked) (w : Work) → IsAccepted f.bytes tree → SumsUp tree xs w
    → Owes b n (Some (Check d)) w.reply
sums_owe b n d f tree xs w a (Summed count width s e) =
    ends_owe b n (Some (Check d)) xs w _ e (λ t. inr (inr (inr (inl (record { check = tt; file = f; tree = tree; is = a; count = count; width = width; summary = s; told = t })))))

check_owes : (b n : Moment) (d : List ℕ) (xs : List Asked) (w : Work) → CallsBehind b n 0 xs w → HaveCauses b.store n.store xs → CheckComesTo d xs w
    → Owes b n (Some (Check d)) w.reply
check_owes b n d xs w calls c =
    let form = Some (Check d) in
    opens_owe b n form 0 d _ xs w refl calls c
    (λ bytes more r calls_more c_more.
    let f : HasBytes b form 0 = record { name = d; named = refl; bytes = bytes; read = r } in
    accepts_owe b n form f _ more w (λ tree a. sums_owe b n d f tree more w a))

-- ---- `asm`

text_owes : (b n : Moment) (d s i : List ℕ) (x : HasDescription b (Some (Asm d s i))) (f : HasBytes b (Some (Asm d s i)) 1) (xs : List Asked) (w : Work)
    → Leaves b.store n.store w.file → AssemblesTo f.name i x.file.bytes (table x.tree) x.width f.bytes xs w → Owes b n (Some (Asm d s i)) w.reply
text_owes b n d s i x f xs w saved (FaultyText fault some faulty e) =
    ends_owe b n (Some (Asm d s i)) xs w _ e
    (λ t. inl (record { files = record { asm = tt; description = x; text = f }; fault = fault; some = some; faulty = faulty; told = t }))
text_owes b n d s i x f xs w saved (Words words inits h last e) = λ t.
    subst (λ (k : Work). HasCause b n (Some (Asm d s i)) k.reply.status) (sym e) (inl (record {
      files = record { asm = tt; description = x; text = f };
      words = words;
      inits = inits;
      assembles = h;
      image = i;
      named = refl;
      saved = subst (λ (k : Work). Leaves b.store n.store k.file) e saved;
      told = subst (λ (k : Work). Took b.taken n.taken k.reply.text) e t;
      round_trip = λ text c. assembled_back x.file.bytes x.tree x.width words text inits x.is x.word_width (right x.tree x.width f.bytes words inits x.is.right x.word_width h) c;
    }))

asm_owes : (b n : Moment) (d s i : List ℕ) (xs : List Asked) (w : Work) → CallsBehind b n 0 xs w → HaveCauses b.store n.store xs → Leaves b.store n.store w.file
    → AsmComesTo d s i xs w → Owes b n (Some (Asm d s i)) w.reply
asm_owes b n d s i xs w calls c saved =
    let form = Some (Asm d s i) in
    opens_owe b n form 0 d _ xs w refl calls c
    (λ bytes more r calls_more c_more.
    let f : HasBytes b form 0 = record { name = d; named = refl; bytes = bytes; read = r } in
    accepts_owe b n form f _ more w
    (λ tree a. sizes_owe b n form tree _ more w
    (λ width wide.
    let x : HasDescription b form = record { file = f; tree = tree; is = a; width = width; word_width = wide } in
    opens_owe b n form 1 s _ more w refl calls_more c_more
    (λ text rest t calls_rest c_rest. text_owes b n d s i x (record { name = s; named = refl; bytes = text; read = t }) rest w saved))))

-- ---- images

-- the image that was found
abbrev FoundImage : (b : Moment) (form : Option Form) → HasImageFile b form → Type 0
FoundImage b form m = (i : Picture) × IsImageOf (measures (table m.description.tree) m.description.width) (sha256 m.description.file.bytes) m.image.bytes i

loads_owe : (b n : Moment) (form : Option Form) (m : HasImageFile b form) (goes : Picture → List Asked → Work → Type 0) (xs : List Asked) (w : Work)
    → ((l : FoundImage b form m) → goes l.0 xs w → Owes b n form w.reply)
    → Loads m.image.name m.description.file.bytes (table m.description.tree) m.description.width m.image.bytes goes xs w → Owes b n form w.reply
loads_owe b n form m goes xs w h (FaultyImage fault some faulty e) =
    ends_owe b n form xs w _ e (λ t. record { files = m; fault = fault; some = some; faulty = faulty; told = t })
loads_owe b n form m goes xs w h (Loaded i is g) = h (i, is) g

-- ---- `dis`

shows_owe : (b n : Moment) (d i : List ℕ) (l : HasImage b (Some (Dis d i))) (xs : List Asked) (w : Work)
    → DisassemblesTo (table l.files.description.tree) l.files.description.width l.picture xs w → Owes b n (Some (Dis d i)) w.reply
shows_owe b n d i l xs w (Shown text c e) =
    let x = l.files.description in
    ends_owe b n (Some (Dis d i)) xs w _ e
    (λ t. inr (inl (record {
      dis = tt;
      loaded = l;
      text = text;
      canonical = c;
      told = t;
      round_trip = assembled_back x.file.bytes x.tree x.width l.picture.words text (initials l.picture) x.is x.word_width (right_of (table x.tree) x.width l.picture l.is.valid) c;
    })))

dis_owes : (b n : Moment) (d i : List ℕ) (xs : List Asked) (w : Work) → CallsBehind b n 0 xs w → HaveCauses b.store n.store xs → DisComesTo d i xs w
    → Owes b n (Some (Dis d i)) w.reply
dis_owes b n d i xs w calls c =
    let form = Some (Dis d i) in
    opens_owe b n form 0 d _ xs w refl calls c
    (λ bytes more r calls_more c_more.
    let f : HasBytes b form 0 = record { name = d; named = refl; bytes = bytes; read = r } in
    accepts_owe b n form f _ more w
    (λ tree a. sizes_owe b n form tree _ more w
    (λ width wide.
    let x : HasDescription b form = record { file = f; tree = tree; is = a; width = width; word_width = wide } in
    opens_owe b n form 1 i _ more w refl calls_more c_more
    (λ bits rest s calls_rest c_rest.
    let m : HasImageFile b form = record { of_image = tt; description = x; image = record { name = i; named = refl; bytes = bits; read = s } } in
    loads_owe b n form m _ rest w (λ l. shows_owe b n d i (record { files = m; picture = l.0; is = l.1 }) rest w)))))

-- ---- `run`

-- the run of the image on these numbers comes to this
abbrev RunsSo : (b : Moment) (form : Option Form) → HasMachine b form → List ℤ → RunOutcome → Type 0
RunsSo b form m found r = RunsImage (table m.loaded.files.description.tree) m.loaded.picture.words (initials m.loaded.picture) found m.steps r

-- codes other than 0
above_zero : (code : ℕ) → pos (suc code) ≡ pos 0 → ⊥
above_zero code e = absurd cc

below_zero : (code : ℕ) → negsuc code ≡ pos 0 → ⊥
below_zero code e = absurd cc

stop_owes : (b n : Moment) (form : Option Form) (m : HasMachine b form) (found : List ℤ) (r : RunOutcome) (stop : Stop)
    → numbers (input_type (table m.loaded.files.description.tree)) m.input.bytes ≡ Ok found → RunsSo b form m found r → r.stop ≡ stop
    → Took b.taken n.taken (told_run r).text → HasCause b n form (stop_status stop)
stop_owes b n form m found r Running is runs e t = inl (record { machine = m; found = found; is = is; run = r; runs = runs; stop = e; told = t })
stop_owes b n form m found r (Halted (pos zero)) is runs e t =
    inr (inr (inl (record { machine = m; found = found; is = is; run = r; runs = runs; stop = e; told = t })))
stop_owes b n form m found r (Halted (pos (suc code))) is runs e t =
    inl (record { machine = m; found = found; is = is; run = r; runs = runs; stop = (pos (suc code), e, above_zero code); told = t })
stop_owes b n form m found r (Halted (negsuc code)) is runs e t =
    inl (record { machine = m; found = found; is = is; run = r; runs = runs; stop = (negsuc code, e, below_zero code); told = t })
stop_owes b n form m found r Wanted is runs e t = inl (record { machine = m; found = found; is = is; run = r; runs = runs; stop = e; told = t })
stop_owes b n form m found r (NoWord place) is runs e t = record { machine = m; found = found; is = is; run = r; runs = runs; stop = (place, e); told = t }
stop_owes b n form m found r (BadWord place) is runs e t = record { machine = m; found = found; is = is; run = r; runs = runs; stop = (place, e); told = t }

input_owes : (b n : Moment) (form : Option Form) (m : HasMachine b form) (xs : List Asked) (w : Work)
    → RunsTo m.input.name m.steps (table m.loaded.files.description.tree) m.loaded.picture m.input.bytes xs w → Owes b n form w.reply
input_owes b n form m xs w (Input line is e) = ends_owe b n form xs w _ e (λ t. inl (record { machine = m; line = line; bad = is; told = t }))
input_owes b n form m xs w (Ran found is r runs e) = ends_owe b n form xs w _ e (λ t. stop_owes b n form m found r r.stop is runs refl t)

run_owes : (b n : Moment) (d i x : List ℕ) (steps : ℕ) (xs : List Asked) (w : Work) → CallsBehind b n 0 xs w → HaveCauses b.store n.store xs
    → RunComesTo d i x steps xs w → Owes b n (Some (Run d i x steps)) w.reply
run_owes b n d i x steps xs w calls c =
    let form = Some (Run d i x steps) in
    opens_owe b n form 0 d _ xs w refl calls c
    (λ bytes more r calls_more c_more.
    let f : HasBytes b form 0 = record { name = d; named = refl; bytes = bytes; read = r } in
    accepts_owe b n form f _ more w
    (λ tree a. sizes_owe b n form tree _ more w
    (λ width wide.
    let p : HasDescription b form = record { file = f; tree = tree; is = a; width = width; word_width = wide } in
    opens_owe b n form 1 i _ more w refl calls_more c_more
    (λ bits rest s calls_rest c_rest.
    let m : HasImageFile b form = record { of_image = tt; description = p; image = record { name = i; named = refl; bytes = bits; read = s } } in
    loads_owe b n form m _ rest w
    (λ l.
    let found : HasImage b form = record { files = m; picture = l.0; is = l.1 } in
    opens_owe b n form 2 x _ rest w refl calls_rest c_rest
    (λ text last t calls_last c_last.
    input_owes b n form (record { steps = steps; run = refl; loaded = found; input = record { name = x; named = refl; bytes = text; read = t } }) last w))))))

-- ---- `ceval`

-- the bits that were found
abbrev FoundWidth : (b : Moment) (form : Option Form) → HasTree b form → Type 0
FoundWidth b form t = (bits : ℕ) × (target t.tree ≡ Ok bits)

targets_owe : (b n : Moment) (form : Option Form) (t : HasTree b form) (goes : ℕ → List Asked → Work → Type 0) (xs : List Asked) (w : Work)
    → ((s : FoundWidth b form t) → goes s.0 xs w → Owes b n form w.reply) → Targets t.file.name t.tree goes xs w → Owes b n form w.reply
targets_owe b n form t goes xs w h (NoTarget what e is) = ends_owe b n form xs w _ is (λ u. record { description = t; what = what; lacks = e; told = u })
targets_owe b n form t goes xs w h (Targeted bits e g) = h (bits, e) g

compiles_owe : (b n : Moment) (form : Option Form) (s : HasSource b form) (goes : CTree → List Asked → Work → Type 0) (xs : List Asked) (w : Work)
    → ((tree : CTree) → IsProgram s.source.bytes s.bits tree → goes tree xs w → Owes b n form w.reply) → Compiles s.source.name s.source.bytes s.bits goes xs w
    → Owes b n form w.reply
compiles_owe b n form s goes xs w h (FaultyProgram fault x e) = ends_owe b n form xs w _ e (λ t. inr (record { files = s; fault = fault; faulty = x; told = t }))
compiles_owe b n form s goes xs w h (SoundProgram tree is g) = h tree is g

ending_owes : (b n : Moment) (form : Option Form) (p : HasProgram b form) (found : List ℤ) (stop : outside.Stop) → numbers (Some (ty.Int p.files.bits)) p.input.bytes ≡ Ok found
    → (outcome_of b form p found).stop ≡ stop → Took b.taken n.taken (told_outcome (outcome_of b form p found)).text → HasCause b n form (ending_status stop)
ending_owes b n form p found ends.Running is e t = inr (record { files = p; found = found; is = is; stop = e; told = t })
ending_owes b n form p found ends.Ended is e t = inr (inr (inr (inr (record { files = p; found = found; is = is; stop = inl e; told = t }))))
ending_owes b n form p found (ends.Trap zero) is e t = inr (inr (inr (inr (record { files = p; found = found; is = is; stop = inr e; told = t }))))
ending_owes b n form p found (ends.Trap (suc code)) is e t = inr (record { files = p; found = found; is = is; stop = (code, e); told = t })
ending_owes b n form p found ends.Wants is e t = inr (record { files = p; found = found; is = is; stop = e; told = t })

evaluates_owe : (b n : Moment) (form : Option Form) (p : HasProgram b form) (xs : List Asked) (w : Work)
    → EvaluatesTo p.input.name p.files.description.turns p.files.bits p.program p.input.bytes xs w → Owes b n form w.reply
evaluates_owe b n form p xs w (BadNumber line is e) = ends_owe b n form xs w _ e (λ t. inr (record { files = p; line = line; bad = is; told = t }))
evaluates_owe b n form p xs w (Evaluated found is e) = ends_owe b n form xs w _ e (λ t. ending_owes b n form p found (outcome_of b form p found).stop is refl t)

ceval_owes : (b n : Moment) (d s x : List ℕ) (turns : ℕ) (xs : List Asked) (w : Work) → CallsBehind b n 0 xs w → HaveCauses b.store n.store xs
    → CevalComesTo d s x turns xs w → Owes b n (Some (Ceval d s x turns)) w.reply
ceval_owes b n d s x turns xs w calls c =
    let form = Some (Ceval d s x turns) in
    opens_owe b n form 0 d _ xs w refl calls c
    (λ bytes more r calls_more c_more.
    let f : HasBytes b form 0 = record { name = d; named = refl; bytes = bytes; read = r } in
    accepts_owe b n form f _ more w
    (λ tree a.
    let t : HasTree b form = record { turns = turns; ceval = refl; file = f; tree = tree; is = a } in
    targets_owe b n form t _ more w
    (λ width. opens_owe b n form 1 s _ more w refl calls_more c_more
    (λ text rest q calls_rest c_rest.
    let source : HasSource b form =
    record { description = t; bits = width.0; target_is = width.1; source = record { name = s; named = refl; bytes = text; read = q } } in
    compiles_owe b n form source _ rest w
    (λ program is. opens_owe b n form 2 x _ rest w refl calls_rest c_rest
    (λ entry last k calls_last c_last.
    evaluates_owe b n form (record { files = source; program = program; is = is; input = record { name = x; named = refl; bytes = entry; read = k } }) last w))))))

-- ---- any words

work_owes : (b n : Moment) (form : Option Form) (xs : List Asked) (w : Work) → CallsBehind b n 0 xs w → HaveCauses b.store n.store xs → Leaves b.store n.store w.file
    → ComesTo form xs w → Owes b n form w.reply
work_owes b n None xs w calls c saved e = ends_owe b n None xs w _ e (λ t. (refl, t))
work_owes b n (Some (Check d)) xs w calls c saved g = check_owes b n d xs w calls c g
work_owes b n (Some (Asm d s i)) xs w calls c saved g = asm_owes b n d s i xs w calls c saved g
work_owes b n (Some (Dis d i)) xs w calls c saved g = dis_owes b n d i xs w calls c g
work_owes b n (Some (Run d i x k)) xs w calls c saved g = run_owes b n d i x k xs w calls c g
work_owes b n (Some (Cc d s i)) xs w calls c saved e = ends_owe b n (Some (Cc d s i)) xs w not_built e (λ t. record { other = tt; told = t })
work_owes b n (Some (Ceval d s x k)) xs w calls c saved g = ceval_owes b n d s x k xs w calls c g
work_owes b n (Some (Demo k)) xs w calls c saved e = ends_owe b n (Some (Demo k)) xs w not_built e (λ t. record { other = tt; told = t })

-- the whole text of what is told was taken
kept_owes : (b n : Moment) (form : Option Form) (xs : List Asked) (w : Work) → CallsBehind b n 0 xs w → HaveCauses b.store n.store xs → Leaves b.store n.store w.file
    → ComesTo form xs w ⊎ (w ≡ telling starved) → Owes b n form w.reply
kept_owes b n form xs w calls c saved (inl g) = work_owes b n form xs w calls c saved g
kept_owes b n form xs w calls c saved (inr e) = subst (λ x. Owes b n form x.reply) (sym e) (λ t. tt)

filed_owes : (b n : Moment) (m : Store) (form : Option Form) (w : Work) (o : Reply) → Later b.store m → (Leaves b.store n.store w.file → Owes b n form w.reply)
    → Filed m n.store w o → Owes b n form o
filed_owes b n m form w o l h (Kept saved e) = subst (Owes b n form) (sym e) (h (leaves_of b.store m n.store w.file l saved))
filed_owes b n m form w o l h (works.Failed f is others call rose e) = subst (Owes b n form) (sym e) (λ t. inr (omega (arith, rose, l.write_faults)))
filed_owes b n m form w o l h (works.Starved f is held call e) = subst (Owes b n form) (sym e) (λ t. tt)

-- ---- each status

status_owes : (b n : Moment) (form : Option Form) (o : Reply) (status : Status) → Owes b n form o → Told o b.taken n.taken b.faults n.faults status → HasCause b n form status
status_owes b n form o status h (Whole t kept e) = subst (HasCause b n form) (sym e) (h t)
status_owes b n form o status h (Cut t rose e) = subst (HasCause b n form) (sym e) (inl rose)
status_owes b n form o status h (Starved t kept e) = subst (HasCause b n form) (sym e) tt
status_owes b n form o status h (CutStarved t rose e) = subst (HasCause b n form) (sym e) (inl rose)

pub cause_of : (b n : Moment) (form : Option Form) (status : Status) → Answers b n form status → HasCause b n form status
cause_of b n form status a =
    let l = reads_later b.store a.read a.asked a.reads in
    let k = counted_by a.read n.store a.work a.told a.filed in
    status_owes b n form a.told status
    (filed_owes b n a.read form a.work a.told l
    (λ saved. kept_owes b n form a.asked a.work (λ e. omega (arith, calls_without b.store a.read n.store a.asked a.work a.told a.reads a.filed e))
    (causes b.store a.read n.store a.asked (omega (arith, k.read_faults)) (omega (arith, k.absents)) a.reads) saved a.comes)
    a.filed)
    a.puts

-- ---- no form

told_ends : (o : Reply) (t u : Option (List ℕ)) (f g : ℕ) (s : Status) → Told o t u f g s → EndsIn o.status s
told_ends o t u f g s (Whole x kept e) = inl e
told_ends o t u f g s (Cut x rose e) = inr (inl e)
told_ends o t u f g s (Starved x kept e) = inr (inr e)
told_ends o t u f g s (CutStarved x rose e) = inr (inl e)

memory_ends : (told s : Status) → EndsIn statuses.Memory s → EndsIn told s
memory_ends told s (inl e) = inr (inr e)
memory_ends told s (inr e) = inr e

-- without a file, what the work comes to is told
told_work : (m n : Store) (w : Work) (o : Reply) → w.file ≡ None → Filed m n w o → o ≡ w.reply
told_work m n w o e (Kept saved f) = f
told_work m n w o e (works.Failed f is others call rose x) = absurd (cc (e, is))
told_work m n w o e (works.Starved f is held call x) = absurd (cc (e, is))

usage_by : (b n : Moment) (s : Status) (a : Answers b n None s) → ComesTo None a.asked a.work ⊎ (a.work ≡ telling starved) → EndsIn statuses.Usage s
usage_by b n s a (inl e) =
    let o = told_work a.read n.store a.work a.told (ap (λ k. k.file) e.is) a.filed in
    subst (λ t. EndsIn t s) (ap (λ p. p.status) (o ∙ ap (λ k. k.reply) e.is)) (told_ends a.told b.taken n.taken b.faults n.faults s a.puts)
usage_by b n s a (inr e) =
    let o = told_work a.read n.store a.work a.told (ap (λ k. k.file) e) a.filed in
    memory_ends statuses.Usage s (subst (λ t. EndsIn t s) (ap (λ p. p.status) (o ∙ ap (λ k. k.reply) e)) (told_ends a.told b.taken n.taken b.faults n.faults s a.puts))

pub usage_of : (b n : Moment) (form : Option Form) (s : Status) → Answers b n form s → IsUsage form s
usage_of b n form s a e = let c = subst (λ f. Answers b n f s) e a in usage_by b n s c c.comes
