-- What came of the file to be written, after the reads: which files stay, and how many calls there were.
use Rattle.std.proofs.Common.{◌≡◌, ◌≤◌, ◌+◌, ℕ, List, Option, Some, None, length, refl, sym, ap, ◌∙◌, subst, arith}
use Rattle.nk_outside.specs.Held.{Names, SameElsewhere}
use Rattle.nml_reply.specs.Reply.{Reply}
use Rattle.nml_suite.specs.Answer.{IsNamed}
use Rattle.nml_suite.specs.Files.{Leaves, LeavesBut, count_of}
use Rattle.nml_suite.specs.Reading.{Store, Asked, AreRead}
use Rattle.nml_suite.specs.Work.{Work, Written, IsWriteCall, IsSaved, Filed, Kept, Failed, Starved}
use Rattle.nml_suite.proofs.ReadRows.{Later, counted_once, reads_calls}

-- how many calls a write is
abbrev pub writes : Option Written → ℕ
writes None = 0
writes (Some file) = 1

-- what stays with the counts, whatever came of the write
pub record Counted (before now : Store) (file : Option Written) : Type 0 where
  pub calls : now.counts.calls ≤ before.counts.calls + writes file
  pub read_faults : now.counts.read_faults ≡ before.counts.read_faults
  pub absents : now.counts.absents ≡ before.counts.absents

unchanged : (m n : Store) → n ≡ m → Counted m n None
unchanged m n e = subst (λ s. Counted m s None) (sym e) (record { calls = omega arith; read_faults = refl; absents = refl })

called : (m n : Store) (f : Written) → IsWriteCall m n → Counted m n (Some f)
called m n f c = record { calls = omega (arith, c.calls, counted_once m.counts.calls); read_faults = c.read_faults; absents = c.absents }

saved_counted : (m n : Store) (f : Option Written) → IsSaved m n f → Counted m n f
saved_counted m n None e = unchanged m n e
saved_counted m n (Some f) w = called m n f w.call

pub counted_by : (m n : Store) (w : Work) (o : Reply) → Filed m n w o → Counted m n w.file
counted_by m n w o (Kept s e) = saved_counted m n w.file s
counted_by m n w o (Failed f is others call rose e) = subst (Counted m n) (sym is) (called m n f call)
counted_by m n w o (Starved f is held call e) = subst (Counted m n) (sym is) (called m n f call)

-- the calls of a work that writes no file are its reads
pub calls_without : (b m n : Store) (xs : List Asked) (w : Work) (o : Reply) → AreRead b m xs → Filed m n w o → w.file ≡ None → n.counts.calls ≤ b.counts.calls + length xs
calls_without b m n xs w o r filed e =
    let c : Counted m n None = subst (Counted m n) e (counted_by m n w o filed) in
    omega (arith, c.calls, reads_calls b m xs r)

writes_one : (f : Option Written) (name : Option (List ℕ)) → IsNamed f name → writes f ≤ count_of name
writes_one None name h = omega arith
writes_one (Some f) name h = subst (λ x. 1 ≤ count_of x) (sym h) (omega arith)

-- and there is one more at most
pub calls_at_most : (b m n : Store) (xs : List Asked) (w : Work) (o : Reply) (name : Option (List ℕ)) → AreRead b m xs → Filed m n w o → IsNamed w.file name
    → n.counts.calls ≤ b.counts.calls + length xs + count_of name
calls_at_most b m n xs w o name r filed h = omega (arith, (counted_by m n w o filed).calls, reads_calls b m xs r, writes_one w.file name h)

-- ---- what the files hold

pub leaves_of : (b m n : Store) (f : Option Written) → Later b m → IsSaved m n f → Leaves b n f
leaves_of b m n None l e = record { held = ap (λ s. s.held) e ∙ l.held; write_faults = ap (λ s. s.counts.write_faults) e ∙ l.write_faults }
leaves_of b m n (Some f) l w = record { holds = w.holds; others = subst (λ x. SameElsewhere f.name x n.held) l.held w.others }

pub same_held : (name : List ℕ) (h k : Option Names) → k ≡ h → SameElsewhere name h k
same_held name h k e = subst (SameElsewhere name h) (sym e) (itself h)
  where
    itself : (q : Option Names) → SameElsewhere name q q
    itself None = tt
    itself (Some q) = λ other differs. refl

-- no file but the one of the work's name is changed
leaves_but : (b n : Store) (f : Option Written) (name : Option (List ℕ)) → IsNamed f name → Leaves b n f → LeavesBut b n name
leaves_but b n None None h l = l
leaves_but b n None (Some name) h l = same_held name b.held n.held l.held
leaves_but b n (Some f) name h l = subst (LeavesBut b n) (sym h) l.others

elsewhere_named : (b n : Store) (f : Written) (file : Option Written) (name : Option (List ℕ)) → file ≡ Some f → IsNamed file name → SameElsewhere f.name b.held n.held → LeavesBut b n name
elsewhere_named b n f file name is h s =
    let e : name ≡ Some f.name = subst (λ x. IsNamed x name) is h in subst (LeavesBut b n) (sym e) s

pub filed_but : (b m n : Store) (w : Work) (o : Reply) (name : Option (List ℕ)) → Later b m → IsNamed w.file name → Filed m n w o → LeavesBut b n name
filed_but b m n w o name l h (Kept s e) = leaves_but b n w.file name h (leaves_of b m n w.file l s)
filed_but b m n w o name l h (Failed f is others call rose e) = elsewhere_named b n f w.file name is h (subst (λ x. SameElsewhere f.name x n.held) l.held others)
filed_but b m n w o name l h (Starved f is held call e) = elsewhere_named b n f w.file name is h (same_held f.name b.held n.held (held ∙ l.held))
