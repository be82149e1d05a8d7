-- What becomes of the files in a call of the top call.
use Rattle.std.proofs.Common.{◌≡◌, ◌⊎◌, ◌≤◌, ℕ, List, [], ◌∷◌, Option, Some, None, length, refl, ap, ◌∙◌, subst, inl, inr, arith}
use Rattle.nk_outside.specs.Count.{Rose}
use Rattle.nml_suite.specs.Answer.{Moment, Answers, AreNamed}
use Rattle.nml_suite.specs.Coming.{ComesTo}
use Rattle.nml_suite.specs.Files.{KeepsFiles, HasDefined, HasWork, Leaves, IsRefusal, LeavesOthers, CallsOnce}
use Rattle.nml_command.specs.Form.{Form, named_to_read, named_to_write}
use Rattle.nml_reply.specs.Reply.{Reply, starved}
use Rattle.nml_reply.specs.Told.{Told, Whole, Cut, CutStarved}
use Rattle.nml_reply.specs.Told as told
use Rattle.nml_reply.specs.declared.status.Status.{Status}
use Rattle.nml_reply.specs.declared.status.Status.TheVariants as statuses
use Rattle.nml_suite.specs.Reading.{Store, Asked}
use Rattle.nml_suite.specs.Work.{Work, Written, telling, Filed, Kept, Failed, Starved}
use Rattle.nml_suite.proofs.Chain.{sound}
use Rattle.nml_suite.proofs.Filing.{counted_by, calls_at_most, filed_but, leaves_of}
use Rattle.nml_suite.proofs.ReadRows.{Later, causes, reads_later}

-- a status before the write comes without one
refusal_of : (o : Reply) (t u : Option (List ℕ)) (f g : ℕ) (s : Status) → IsRefusal s → Told o t u f g s → IsRefusal o.status
refusal_of o t u f g s h (Whole x kept e) = subst IsRefusal e h
refusal_of o t u f g s h (Cut x rose e) = absurd (subst IsRefusal e h)
refusal_of o t u f g s h (told.Starved x kept e) = absurd (subst IsRefusal e h)
refusal_of o t u f g s h (CutStarved x rose e) = absurd (subst IsRefusal e h)

-- a work with a file is of the words, and ends well
file_done : (form : Option Form) (xs : List Asked) (w : Work) → ComesTo form xs w ⊎ (w ≡ telling starved) → (f : Written) → w.file ≡ Some f → w.reply.status ≡ statuses.Done
file_done form xs w (inl g) f is = (sound form xs w g).done f is
file_done form xs w (inr e) f is = absurd (cc (e, is))

file_comes : (form : Option Form) (xs : List Asked) (w : Work) → ComesTo form xs w ⊎ (w ≡ telling starved) → (f : Written) → w.file ≡ Some f → ComesTo form xs w
file_comes form xs w (inl g) f is = g
file_comes form xs w (inr e) f is = absurd (cc (e, is))

without_file : (b n : Store) (file : Option Written) → ((f : Written) → file ≡ Some f → ⊥) → Leaves b n file → KeepsFiles b n
without_file b n None h l = l
without_file b n (Some f) h l = absurd (h f refl)

refused_kept : (b m n : Store) (w : Work) (o : Reply) → Later b m → ((f : Written) → w.file ≡ Some f → w.reply.status ≡ statuses.Done) → IsRefusal o.status → Filed m n w o → KeepsFiles b n
refused_kept b m n w o l done r (Kept s e) =
    without_file b n w.file (λ f is. subst IsRefusal (ap (λ k. k.status) e ∙ done f is) r) (leaves_of b m n w.file l s)
refused_kept b m n w o l done r (Failed f is others call rose e) = absurd (subst IsRefusal (ap (λ k. k.status) e) r)
refused_kept b m n w o l done r (Starved f is held call e) = absurd (subst IsRefusal (ap (λ k. k.status) e) r)

defined_file : (b n : Store) (form : Option Form) (w : Work) (file : Option Written) → w.file ≡ file → ((f : Written) → w.file ≡ Some f → HasWork b n form w) → Leaves b n file
    → (n.held ≡ b.held) ⊎ HasDefined b n form
defined_file b n form w None e has l = inl l.held
defined_file b n form w (Some f) e has l = inr (record { work = w; has = has f e; file = f; is = e; written = l })

defined_by : (b m n : Store) (form : Option Form) (w : Work) (o : Reply) → Later b m → ((f : Written) → w.file ≡ Some f → HasWork b n form w)
    → (Rose b.counts.write_faults n.counts.write_faults → ⊥) → Filed m n w o → (n.held ≡ b.held) ⊎ HasDefined b n form
defined_by b m n form w o l has never (Kept s e) = defined_file b n form w w.file refl has (leaves_of b m n w.file l s)
defined_by b m n form w o l has never (Failed f is others call rose e) = absurd (never (omega (arith, rose, l.write_faults)))
defined_by b m n form w o l has never (Starved f is held call e) = inl (held ∙ l.held)

pub untouched : (b n : Moment) (form : Option Form) (status : Status) → Answers b n form status → LeavesOthers b n form status
untouched b n form status a =
    let l = reads_later b.store a.read a.asked a.reads in
    let k = counted_by a.read n.store a.work a.told a.filed in
    let c = causes b.store a.read n.store a.asked (omega (arith, k.read_faults)) (omega (arith, k.absents)) a.reads in
    record {
      elsewhere = filed_but b.store a.read n.store a.work a.told (named_to_write form) l a.writes a.filed;
      refused = λ h. refused_kept b.store a.read n.store a.work a.told l (file_done form a.asked a.work a.comes) (refusal_of a.told b.taken n.taken b.faults n.faults status h a.puts) a.filed;
      defined = λ never. defined_by b.store a.read n.store form a.work a.told l
          (λ f is. record { asked = a.asked; causes = c; comes = file_comes form a.asked a.work a.comes f is }) never a.filed;
    }

named_count : (xs : List Asked) (names : List (List ℕ)) → AreNamed xs names → length xs ≤ length names
named_count [] names h = omega arith
named_count (x ∷ xs) [] h = absurd h
named_count (x ∷ xs) (name ∷ names) h = omega (arith, named_count xs names h.1)

pub calls_once : (b n : Moment) (form : Option Form) (status : Status) → Answers b n form status → CallsOnce b n form
calls_once b n form status a =
    omega (arith, calls_at_most b.store a.read n.store a.asked a.work a.told (named_to_write form) a.reads a.filed a.writes, named_count a.asked (named_to_read form) a.named)
