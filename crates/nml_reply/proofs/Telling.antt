-- What a sink took of a text, and how the call ends.
use Rattle.std.proofs.Common.{◌≡◌, ℕ, List, Option, Result, Ok, Err, sym, subst, ◌∙◌, arith, inl, inr}
use Rattle.std.specs.Prelude.{OnOk, OnErr}
use Rattle.nk_outside.specs.Taken.{Took, TookFront}
use Rattle.nk_outside.specs.declared.files.WriteFault.{WriteFault}
use Rattle.nk_outside.specs.declared.files.WriteFault.TheVariants as faults
use Rattle.nk_outside.proofs.Pieces.{took_append}
use Rattle.nml_reply.specs.Ended.{CountsPuts, Ends, IsMemory}
use Rattle.nml_reply.specs.Reply.{Reply}
use Rattle.nml_reply.specs.Told.{Told, Whole, Cut, Starved, CutStarved, TookStarved, memory_line}
use Rattle.nml_reply.specs.declared.status.Status.{Status}

-- a front of the text, and then one of the line
with_line : (a b c : Option (List ℕ)) (text : List ℕ) → TookFront a b text → TookFront b c memory_line → TookStarved a c text
with_line a b c text p q = record { front = p.0; line = q.0; is_front = p.1; is_line = q.1; took = took_append a b c p.0 q.0 p.2 q.2 }

starved : (o : Reply) (a c : Option (List ℕ)) (f g h : ℕ) (s : Status) → TookStarved a c o.text → g ≡ f → IsMemory g h s → Told o a c f h s
starved o a c f g h s cut same (inl e) = Starved cut (e.1 ∙ same) e.0
starved o a c f g h s cut same (inr e) = CutStarved cut (omega (arith, e.1, same)) e.0

pub told_by : (o : Reply) (a b c : Option (List ℕ)) (f g h : ℕ) (put : Result (Unit {0}) WriteFault) (s : Status) → OnOk put (Took a b o.text)
    → OnErr put (TookFront a b o.text) → CountsPuts f g put → Ends put o.status b c g h s → Told o a c f h s
told_by o a b c f g h (Ok u) s ok err counts e = Whole (subst (λ t. Took a t o.text) (sym e.0) ok) (e.1 ∙ counts) e.2
told_by o a b c f g h (Err faults.Failed) s ok err counts e = Cut (subst (λ t. TookFront a t o.text) (sym e.0) err) (omega (arith, counts, e.1)) e.2
told_by o a b c f g h (Err faults.Memory) s ok err counts e = starved o a c f g h s (with_line a b c o.text err e.0) counts e.1
