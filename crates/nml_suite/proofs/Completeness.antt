-- Where the files are told and nothing fails, what the words come to is answered in full, or memory was wanted.
use Rattle.std.proofs.Common.{◌≡◌, ◌⊎◌, ℕ, ◌≤◌, ◌<◌, suc, List, [], ◌∷◌, length, Option, Some, refl, sym, ap, ◌∙◌, subst, arith, inl, inr}
use Rattle.std.specs.Prelude.{true, false, nat_le, if◌then◌else◌}
use Rattle.std.proofs.lemmas.Bool.Decides.{nat_tests}
use Rattle.nk_outside.specs.Count.{Rose}
use Rattle.nk_outside.specs.Held.{Names, file_limit}
use Rattle.nk_outside.specs.Taken.{Took}
use Rattle.nml_suite.specs.Answer.{Moment, Answers}
use Rattle.nml_suite.specs.Coming.{ComesTo}
use Rattle.nml_suite.specs.Complete.{NeverFails, AnswersInFull, IsAnswered, IsComplete, AreAnswered, reading_of, told_of}
use Rattle.nml_suite.specs.Files.{HaveCauses}
use Rattle.nml_command.specs.Form.{Form}
use Rattle.nml_reply.specs.Reading.{Reading, Got, Absent, TooLong, Unread}
use Rattle.nml_reply.specs.Reading as readings
use Rattle.nml_reply.specs.Reply.{Reply, starved}
use Rattle.nml_reply.specs.Told.{Told, Whole, Cut, Starved, CutStarved}
use Rattle.nml_reply.specs.declared.status.Status.{Status}
use Rattle.nml_reply.specs.declared.status.Status.TheVariants as statuses
use Rattle.nml_suite.specs.Reading.{Store, HasReading, Asked}
use Rattle.nml_suite.specs.Work.{Work, telling, Filed, Kept, Failed}
use Rattle.nml_suite.specs.Work as works
use Rattle.nml_suite.proofs.Chain.{NoneUnread, sound}
use Rattle.nml_suite.proofs.Filing.{counted_by, leaves_of}
use Rattle.nml_suite.proofs.ReadRows.{Later, causes, reads_later}

limit_above : (bytes : List ℕ) → length bytes ≤ file_limit → reading_of (Some bytes) ≡ Got bytes
limit_above bytes h = let e : nat_le (length bytes) file_limit ≡ true = grind (arith, nat_tests) in ap (λ b. if b then Got bytes else TooLong) e

limit_below : (bytes : List ℕ) → file_limit < length bytes → reading_of (Some bytes) ≡ TooLong
limit_below bytes h = let e : nat_le (length bytes) file_limit ≡ false = grind (arith, nat_tests) in ap (λ b. if b then Got bytes else TooLong) e

-- a file that is told is read as it is told, where no read failed
as_told : (names : Names) (b n : Store) (name : List ℕ) (r : Reading) → b.held ≡ Some names → (Rose b.counts.read_faults n.counts.read_faults → ⊥) → (r ≡ Unread → ⊥)
    → HasReading b.held b.counts n.counts name r → r ≡ reading_of (names name)
as_told names b n name r held never told h = by_case r told (subst (λ q. HasReading q b.counts n.counts name r) held h)
  where
    by_case : (x : Reading) → (x ≡ Unread → ⊥) → HasReading (Some names) b.counts n.counts name x → x ≡ reading_of (names name)
    by_case (Got bytes) t k = sym (ap reading_of k.0 ∙ limit_above bytes k.1)
    by_case Absent t k = sym (ap reading_of k.0)
    by_case readings.Failed t k = absurd (never k)
    by_case TooLong t k = sym (ap reading_of k.1 ∙ limit_below k.0 k.2)
    by_case Unread t k = absurd (t refl)

all_as_told : (names : Names) (b n : Store) (place : ℕ) (xs : List Asked) → b.held ≡ Some names → (Rose b.counts.read_faults n.counts.read_faults → ⊥) → NoneUnread xs
    → HaveCauses b n xs → AreAnswered (told_of names) place xs
all_as_told names b n place [] held never told c = tt
all_as_told names b n place (x ∷ xs) held never told c =
    (as_told names b n x.0 x.1 held never told.0 c.0, all_as_told names b n (suc place) xs held never told.1 c.1)

-- what is told is what the words come to, and was told in full; or memory was wanted
in_full : (b n : Moment) (m : Store) (w : Work) (o : Reply) (s : Status) → Later b.store m → NeverFails b n → Filed m n.store w o → Told o b.taken n.taken b.faults n.faults s
    → (s ≡ statuses.Memory) ⊎ AnswersInFull b n w s
in_full b n m w o s l never (Kept saved e) (Whole t kept is) =
    inr (record { is = is ∙ ap (λ x. x.status) e; took = subst (λ (x : Reply). Took b.taken n.taken x.text) e t; saved = leaves_of b.store m n.store w.file l saved })
in_full b n m w o s l never (Failed f x others call rose e) (Whole t kept is) = absurd (never.writes (omega (arith, rose, l.write_faults)))
in_full b n m w o s l never (works.Starved f x held call e) (Whole t kept is) = inl (is ∙ ap (λ y. y.status) e)
in_full b n m w o s l never filed (Cut t rose is) = absurd (never.puts rose)
in_full b n m w o s l never filed (Starved t kept is) = inl is
in_full b n m w o s l never filed (CutStarved t rose is) = absurd (never.puts rose)

-- where memory was wanted, that is answered
starved_in_full : (b n : Moment) (w : Work) (s : Status) → w ≡ telling starved → (s ≡ statuses.Memory) ⊎ AnswersInFull b n w s → s ≡ statuses.Memory
starved_in_full b n w s e (inl is) = is
starved_in_full b n w s e (inr full) = full.is ∙ ap (λ (k : Work). k.reply.status) e

answered : (names : Names) (b n : Moment) (form : Option Form) (xs : List Asked) (w : Work) (s : Status) → AreAnswered (told_of names) 0 xs → ComesTo form xs w
    → (s ≡ statuses.Memory) ⊎ AnswersInFull b n w s → (s ≡ statuses.Memory) ⊎ IsAnswered names b n form s
answered names b n form xs w s told g (inl is) = inl is
answered names b n form xs w s told g (inr full) = inr (record { work = w; comes = record { asked = xs; answered = told; comes = g }; full = full })

complete_by : (names : Names) (b n : Moment) (form : Option Form) (xs : List Asked) (w : Work) (s : Status) → b.store.held ≡ Some names → NeverFails b n → HaveCauses b.store n.store xs
    → (s ≡ statuses.Memory) ⊎ AnswersInFull b n w s → ComesTo form xs w ⊎ (w ≡ telling starved) → (s ≡ statuses.Memory) ⊎ IsAnswered names b n form s
complete_by names b n form xs w s held never c full (inl g) =
    answered names b n form xs w s (all_as_told names b.store n.store 0 xs held never.reads (sound form xs w g).told c) g full
complete_by names b n form xs w s held never c full (inr e) = inl (starved_in_full b n w s e full)

pub complete : (b n : Moment) (form : Option Form) (status : Status) → Answers b n form status → IsComplete b n form status
complete b n form status a names held never =
    let l = reads_later b.store a.read a.asked a.reads in
    let k = counted_by a.read n.store a.work a.told a.filed in
    complete_by names b n form a.asked a.work status held never
    (causes b.store a.read n.store a.asked (omega (arith, k.read_faults)) (omega (arith, k.absents)) a.reads)
    (in_full b n a.read a.work a.told status l never a.filed a.puts) a.comes
