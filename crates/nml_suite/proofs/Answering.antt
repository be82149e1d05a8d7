-- The answer of a whole command, from what its steps come to.
use Rattle.std.proofs.Common.{arith, ◌≡◌, inl, inr, ℕ, [], List, Option, Some, None, Ok, Err, refl, sym, subst}
use Rattle.std.specs.Global.{Vec}
use Rattle.attr_exec.specs.Ready.{NextFits}
use Rattle.bit_sim.specs.Simulator.{AreInitial}
use Rattle.image_file.specs.Seen.{picture_of}
use Rattle.input_port.specs.Port.{AllFit}
use Rattle.input_port.proofs.Taken.{none_fits, numbers_fit}
use Rattle.nml_tree.specs.Refused.{IsChecked, IsTyped}
use Rattle.nml_tree.specs.Table.{table}
use Rattle.nml_tree.specs.declared.tree.Desc.{Desc}
use Rattle.nml_suite.specs.Answer.{Answers, Moment, IsNamed}
use Rattle.nml_suite.specs.Cause.{IsOther}
use Rattle.nml_suite.specs.Coming.{ComesTo}
use Rattle.nml_command.specs.Form.{Form, Check, Asm, Dis, Run, Cc, Ceval, Demo, named_to_read, named_to_write}
use Rattle.nml_reply.specs.Refusals.{refused}
use Rattle.nml_reply.specs.Reply.{Reply, reply, not_built, starved, told_run, usage_line}
use Rattle.nml_reply.specs.Told.{Told}
use Rattle.nml_reply.specs.declared.refusal.Refusal.{Refusal}
use Rattle.nml_reply.specs.declared.status.Status.{Status}
use Rattle.nml_reply.specs.declared.status.Status.TheVariants as statuses
use Rattle.nml_suite.specs.Reading.{Store}
use Rattle.nml_suite.specs.Refusing.{file_named, Settles, IsStored, IsReady}
use Rattle.nml_suite.specs.Running.{TellsRun, TellsRunOf, TellsNone, opened}
use Rattle.nml_suite.specs.Work.{Work, Written, telling, Filed, Kept, Failed, Starved}
use Rattle.nml_suite.specs.declared.ready.Ready.{Ready}
use Rattle.nml_suite.proofs.Arriving.{arrived, here}
use Rattle.nml_suite.proofs.Images.{valid_begins}

abbrev at : Store → Option (List ℕ) → ℕ → Moment
at s taken faults = record { store = s; taken = taken; faults = faults }

-- ---- what is told without a file

pub told_alone : (b n : Store) (t u : Option (List ℕ)) (f g : ℕ) (form : Option Form) (o : Reply) (status : Status) → Settles b n (named_to_read form) (ComesTo form) (telling o)
    → Told o t u f g status → Answers (at b t f) (at n u g) form status
told_alone b n t u f g form o status s told = record {
  asked = s.asked;
  read = n;
  reads = s.reads;
  named = s.named;
  work = telling o;
  comes = s.is;
  writes = tt;
  told = o;
  filed = Kept refl refl;
  puts = told;
}

-- ---- the file

unsaved : (m n : Store) (w : Work) (f : Written) (e : Refusal) → w.file ≡ Some f → IsStored m n f (Err e) → Filed m n w (refused e)
unsaved m n w f e is (call, inl x) = Failed f is x.1 call x.2 x.0
unsaved m n w f e is (call, inr x) = Starved f is x.1 call x.0

-- what came of the write is told
filed_told : (b m n : Store) (t u : Option (List ℕ)) (f g : ℕ) (form : Option Form) (w : Work) (o : Reply) (status : Status) → Settles b m (named_to_read form) (ComesTo form) w
    → IsNamed w.file (named_to_write form) → Filed m n w o → Told o t u f g status → Answers (at b t f) (at n u g) form status
filed_told b m n t u f g form w o status s named filed told = record {
  asked = s.asked;
  read = m;
  reads = s.reads;
  named = s.named;
  work = w;
  comes = s.is;
  writes = named;
  told = o;
  filed = filed;
  puts = told;
}

pub saved_told : (b m n : Store) (t u : Option (List ℕ)) (f g : ℕ) (form : Option Form) (i : List ℕ) (bytes : Vec ℕ) (o : Reply) (status : Status)
    → named_to_write form ≡ Some i → Settles b m (named_to_read form) (ComesTo form) (record { file = Some (file_named i bytes); reply = o })
    → IsStored m n (file_named i bytes) (Ok tt) → Told o t u f g status → Answers (at b t f) (at n u g) form status
saved_told b m n t u f g form i bytes o status e s stored told =
    filed_told b m n t u f g form (record { file = Some (file_named i bytes); reply = o }) o status s
    (subst (IsNamed (Some (file_named i bytes))) (sym e) refl) (Kept stored refl) told

pub unsaved_told : (b m n : Store) (t u : Option (List ℕ)) (f g : ℕ) (form : Option Form) (i : List ℕ) (bytes : Vec ℕ) (o : Reply) (e : Refusal) (status : Status)
    → named_to_write form ≡ Some i → Settles b m (named_to_read form) (ComesTo form) (record { file = Some (file_named i bytes); reply = o })
    → IsStored m n (file_named i bytes) (Err e) → Told (refused e) t u f g status → Answers (at b t f) (at n u g) form status
unsaved_told b m n t u f g form i bytes o e status is s stored told =
    let w : Work = record { file = Some (file_named i bytes); reply = o } in
    filed_told b m n t u f g form w (refused e) status s
    (subst (IsNamed (Some (file_named i bytes))) (sym is) refl) (unsaved m n w (file_named i bytes) e refl stored) told

-- ---- `run`

-- what is ready to run
abbrev IsReadyRun : Store → Store → List ℕ → List ℕ → List ℕ → Ready → Type 0
IsReadyRun b n d i x r = IsReady b n d i x r.graph (picture_of r.image) r.numbers.items

pub run_told : (b n : Store) (t u : Option (List ℕ)) (f g : ℕ) (d i x : List ℕ) (steps : ℕ) (r : Ready) (status : Status) → IsReadyRun b n d i x r
    → TellsRun (opened r) steps t u f g status → Answers (at b t f) (at n u g) (Some (Run d i x steps)) status
run_told b n t u f g d i x steps r status a (TellsRunOf run runs told) =
    told_alone b n t u f g (Some (Run d i x steps)) (told_run run) status
    (arrived b n n _ _ _ _ _ (a.arrives steps) (here n [] _ _ (inl (run, runs, record { last = refl; is = refl })))) told
run_told b n t u f g d i x steps r status a (TellsNone told) =
    told_alone b n t u f g (Some (Run d i x steps)) starved status (arrived b n n _ _ _ _ _ (a.arrives steps) (here n [] _ _ (inr refl))) told

typed_of : (d : Desc) → IsChecked d → IsTyped d
typed_of d checked k low h = checked.free k (omega (arith, low)) h

-- it begins with initial values that are right, and its numbers are of the input's type
pub ready_begins : (b n : Store) (d i x : List ℕ) (r : Ready) → IsReadyRun b n d i x r → AreInitial (table r.graph.desc) r.image.inits.items
ready_begins b n d i x r a = valid_begins (table r.graph.desc) r.graph.word_bits r.image a.is.valid

pub ready_fits : (b n : Store) (d i x : List ℕ) (r : Ready) → IsReadyRun b n d i x r → AllFit (table r.graph.desc) r.numbers.items
ready_fits b n d i x r a = numbers_fit r.graph.desc a.entry r.numbers.items (typed_of r.graph.desc a.whole.checked) a.numbers_are

pub ready_none : (b n : Store) (d i x : List ℕ) (r : Ready) → IsReadyRun b n d i x r → NextFits (table r.graph.desc) None
ready_none b n d i x r a = none_fits r.graph.desc (typed_of r.graph.desc a.whole.checked)

-- ---- other words

-- a command that isn't built
pub other_told : (s : Store) (t u : Option (List ℕ)) (f g : ℕ) (form : Option Form) (status : Status) → IsOther form → Told not_built t u f g status
    → Answers (at s t f) (at s u g) form status
other_told s t u f g None status o told = absurd o
other_told s t u f g (Some (Asm d c i)) status o told = absurd o
other_told s t u f g (Some (Run d i x n)) status o told = absurd o
other_told s t u f g (Some (Check d)) status o told = absurd o
other_told s t u f g (Some (Dis d i)) status o told = absurd o
other_told s t u f g (Some (Cc d c i)) status o told = told_alone s s t u f g (Some (Cc d c i)) not_built status (here s _ _ _ (inl (record { last = refl; is = refl }))) told
other_told s t u f g (Some (Ceval d c x n)) status o told = absurd o
other_told s t u f g (Some (Demo k)) status o told = told_alone s s t u f g (Some (Demo k)) not_built status (here s _ _ _ (inl (record { last = refl; is = refl }))) told

-- words of no form
pub usage_told : (s : Store) (t u : Option (List ℕ)) (f g : ℕ) (form : Option Form) (status : Status) → None ≡ form
    → Told (reply statuses.Usage usage_line) t u f g status → Answers (at s t f) (at s u g) form status
usage_told s t u f g form status e told =
    subst (λ x. Answers (at s t f) (at s u g) x status) e
    (told_alone s s t u f g None (reply statuses.Usage usage_line) status (here s _ _ _ (inl (record { last = refl; is = refl }))) told)
