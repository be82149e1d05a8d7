-- What was put out of a program's run, and how the call ends.
use Rattle.std.proofs.Common.{◌≡◌, ℕ, List, Option, Ok, Err, sym, ap, ◌∙◌, subst}
use Rattle.nk_outside.specs.Outcome.{Outcome, lines}
use Rattle.nk_outside.specs.Taken.{Took, TookFront}
use Rattle.nk_outside.specs.declared.files.WriteFault.{WriteFault}
use Rattle.nk_outside.specs.declared.stop.Stop.{Stop}
use Rattle.nk_outside.specs.declared.stop.EvalFault.{EvalFault}
use Rattle.nk_outside.proofs.Pieces.{took_append, front_after, front_of_first}
use Rattle.c_eval.specs.Evaluates.{Evaluates}
use Rattle.nml_reply.specs.Ended.{CountsPuts, Ends}
use Rattle.nml_reply.specs.Reply.{Reply, told_outcome, ending_line, ending_status}
use Rattle.nml_reply.specs.Told.{Told, Whole}
use Rattle.nml_reply.specs.declared.status.Status.{Status}
use Rattle.nml_reply.proofs.Telling.{told_by}
use Rattle.nml_suite.specs.Evaluating.{IsTold}
use Rattle.nml_suite.proofs.Outputs.{counts_alike, ends_alike}

pub put_whole : (o : Outcome) (stop : Stop) (a b c : Option (List ℕ)) (status : Status) → Evaluates o a b (Ok stop) → Took b c (ending_line stop) → status ≡ ending_status stop
    → IsTold (told_outcome o) a c (Ok status)
put_whole o stop a b c status h t e =
    (took_append a b c (lines o.out) (ending_line o.stop) h.1 (subst (λ s. Took b c (ending_line s)) (sym h.0) t), e ∙ ap ending_status (sym h.0))

pub put_cut : (o : Outcome) (a b : Option (List ℕ)) (f : EvalFault) (fault : WriteFault) → Evaluates o a b (Err f) → IsTold (told_outcome o) a b (Err fault)
put_cut o a b f fault h = front_of_first a b (lines o.out) (ending_line o.stop) h

pub put_cut_at_end : (o : Outcome) (stop : Stop) (a b c : Option (List ℕ)) (fault : WriteFault) → Evaluates o a b (Ok stop) → TookFront b c (ending_line stop)
    → IsTold (told_outcome o) a c (Err fault)
put_cut_at_end o stop a b c fault h t = front_after a b c (lines o.out) (ending_line o.stop) h.1 (subst (λ s. TookFront b c (ending_line s)) (sym h.0) t)

pub told_whole : (o : Reply) (a b : Option (List ℕ)) (f g : ℕ) (status : Status) → IsTold o a b (Ok status) → CountsPuts {A = Status} f g (Ok status) → Told o a b f g status
told_whole o a b f g status h counts = Whole h.0 counts h.1

pub told_cut : (o : Reply) (a b c : Option (List ℕ)) (f g h : ℕ) (fault : WriteFault) (any status : Status) → IsTold o a b (Err fault) → CountsPuts {A = Status} f g (Err fault)
    → Ends (Err fault) any b c g h status → Told o a c f h status
told_cut o a b c f g h fault any status front counts e =
    told_by o a b c f g h (Err fault) status tt front (counts_alike Status (Unit {0}) fault f g counts) (ends_alike fault any o.status b c g h status e)
