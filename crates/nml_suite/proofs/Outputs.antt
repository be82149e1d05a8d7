-- What was put of a run: its outputs so far, one step more, and how it ends.
use Rattle.std.proofs.Common.{◌≡◌, ◌<◌, ◌≤◌, ◌+◌, ◌-◌, arith, ℕ, zero, suc, List, [], ◌∷◌, ◌++◌, map, Option, Some, None, ℤ, pos, refl, sym, ap, ◌∙◌, subst, append_assoc, append-nil}
use Rattle.std.specs.Option.{option_to_list}
use Rattle.std.specs.Prelude.{Err, Bool, true, false, slice_get}
use Rattle.attr_exec.specs.Ready.{NextFits}
use Rattle.bit_sim.specs.Decoded.{AreDecided}
use Rattle.bit_sim.specs.Simulator.{Simulator, IsStep, IsStepFrom, at, halt_told, initial_of, took_told, turn_told}
use Rattle.bit_sim.specs.declared.step.Step.{Step}
use Rattle.bit_sim.specs.declared.step.Step.TheVariants as steps
use Rattle.bit_sim.proofs.Steps.{a_turn}
use Rattle.input_port.specs.Port.{AllFit}
use Rattle.nk_outside.specs.Taken.{Took, TookFront}
use Rattle.nk_outside.proofs.Pieces.{took_append, front_after, front_of_first}
use Rattle.nk_outside.specs.declared.files.WriteFault.{WriteFault}
use Rattle.nk_outside.specs.declared.files.WriteFault.TheVariants as faults
use Rattle.nml_tree.specs.Machine as machine
use Rattle.nml_tree.specs.Machine.{Now, Turn, Goes, Ends, Found, IsFound, IsTurn, RunOutcome, Runs, Follows, found_turn, left, pc_now, put_before}
use Rattle.nml_tree.specs.Table.{Table, table}
use Rattle.nml_tree.specs.Value.{Cells}
use Rattle.nml_tree.specs.declared.tree.Desc.{Desc}
use Rattle.nml_reply.specs.Ended as ended
use Rattle.nml_reply.specs.Ended.{CountsPuts}
use Rattle.nml_reply.specs.Reply.{output_line, output_lines, stop_line, stop_status, told_run, output_text}
use Rattle.nml_reply.specs.Told.{Whole}
use Rattle.nml_reply.specs.declared.status.Status.{Status}
use Rattle.nml_reply.proofs.Telling.{told_by}
use Rattle.nml_suite.specs.declared.ready.Ready.{Ready}
use Rattle.nml_suite.specs.Running.{Start, RunsFrom, opened, start, PutsOutputs, PutsCutOutputs, PutsRun, PutsCutRun, TellsRun, TellsRunOf, put_by, stop_after}
use Rattle.nml_suite.proofs.Images.{same_initials}

-- The lines of the outputs, of one list after another.
outputs_append : (xs ys : List ℤ) → output_lines (xs ++ ys) ≡ output_lines xs ++ output_lines ys
outputs_append [] ys = refl
outputs_append (x ∷ xs) ys = ap (λ t. output_line x ++ t) (outputs_append xs ys) ∙ sym (append_assoc (output_line x) (output_lines xs) (output_lines ys))

-- the line of an output, where there is one
output_of : (o : Option ℤ) → output_lines (option_to_list o) ≡ output_text o
output_of None = refl
output_of (Some z) = append-nil (output_line z)

-- the lines of the outputs, with one more output where there is one
outputs_more : (xs : List ℤ) (o : Option ℤ) → output_lines (xs ++ option_to_list o) ≡ output_lines xs ++ output_text o
outputs_more xs o = outputs_append xs (option_to_list o) ∙ ap (λ t. output_lines xs ++ t) (output_of o)

-- ---- what steps tell

-- a step with which a run doesn't stop goes on, and the machine hasn't halted
told_go : (step : Step) (cells : Cells) (input : List ℤ) → None ≡ stop_after step → turn_told step cells input ≡ Goes (option_to_list (put_by step)) (at cells (left (took_told step) input))
told_go (steps.Went out took) cells input e = refl
told_go steps.Wants cells input e = absurd cc
told_go (steps.Halted code out took) cells input e = absurd cc
told_go (steps.NoWord place) cells input e = absurd cc
told_go (steps.BadWord place) cells input e = absurd cc

still_going : (step : Step) → None ≡ stop_after step → halt_told step ≡ None
still_going (steps.Went out took) e = refl
still_going steps.Wants e = refl
still_going (steps.Halted code out took) e = absurd cc
still_going (steps.NoWord place) e = refl
still_going (steps.BadWord place) e = refl

-- a step with which a run stops ends it so
same_stop : {a b : machine.Stop} → Some a ≡ Some b → a ≡ b
same_stop e = cc

told_end : (step : Step) (cells : Cells) (input : List ℤ) (stop : machine.Stop) → Some stop ≡ stop_after step → turn_told step cells input ≡ Ends (option_to_list (put_by step)) stop
told_end (steps.Went out took) cells input stop e = absurd cc
told_end steps.Wants cells input stop e = ap (Ends []) (sym (same_stop e))
told_end (steps.Halted code out took) cells input stop e = ap (Ends (option_to_list out)) (sym (same_stop e))
told_end (steps.NoWord place) cells input stop e = ap (Ends []) (sym (same_stop e))
told_end (steps.BadWord place) cells input stop e = ap (Ends []) (sym (same_stop e))

-- ---- runs that go on

-- The simulator stands where a run has come that put these out; whatever it does from here on, with the rest of the input, comes behind that.
pub record SoFar (s : Start) (now : Simulator) (rest : List ℤ) (bound more : ℕ) (old new : Option (List ℕ)) : Type 0 where
  pub description : table now.desc ≡ s.description
  pub words : now.words ≡ s.words
  pub going : now.halted ≡ None
  pub fit : AllFit s.description rest
  pub out : List ℤ
  pub took : Took old new (output_lines out)
  pub goes_on : (r : RunOutcome) → Runs s.description s.words more (at now.cells rest) r → RunsFrom s bound (record { out = out ++ r.out; stop = r.stop })

-- before the first step
pub at_start : (now : Simulator) (input : List ℤ) (bound : ℕ) (a : Option (List ℕ)) → now.halted ≡ None → AllFit (table now.desc) input → Took a a [] → SoFar (start now input) now input bound bound a a
at_start now input bound a going fit none = record { description = refl; words = refl; going = going; fit = fit; out = []; took = none; goes_on = λ r runs. runs }

-- in a turn of the bound
pub in_turn : (s : Start) (now : Simulator) (rest : List ℤ) (bound turn : ℕ) (a b : Option (List ℕ)) → turn < bound → SoFar s now rest bound (bound - turn) a b
    → SoFar s now rest bound (suc (bound - (turn + 1))) a b
in_turn s now rest bound turn a b h f =
    let e : bound - turn ≡ suc (bound - (turn + 1)) = omega (arith, h) in
    subst (λ (n : ℕ). SoFar s now rest bound n a b) e f

-- after the last turn
pub after_turns : (s : Start) (now : Simulator) (rest : List ℤ) (bound turn : ℕ) (a b : Option (List ℕ)) → bound ≤ turn → SoFar s now rest bound (bound - turn) a b → SoFar s now rest bound 0 a b
after_turns s now rest bound turn a b h f =
    let e : bound - turn ≡ 0 = omega (arith, h) in
    subst (λ (n : ℕ). SoFar s now rest bound n a b) e f

-- the next number is of the input's type, where there is one
pub next_fits : (t : Table) (rest : List ℤ) → NextFits t None → AllFit t rest → NextFits t (machine.next rest)
next_fits t [] none fit = none
next_fits t (z ∷ zs) none fit = fit.0

left_fits : (t : Table) (took : Bool) (rest : List ℤ) → AllFit t rest → AllFit t (left took rest)
left_fits t true [] fit = fit
left_fits t true (z ∷ zs) fit = fit.1
left_fits t false [] fit = fit
left_fits t false (z ∷ zs) fit = fit

-- one step of a simulator, with the next number of the input
pub record Stepped (now next : Simulator) (rest : List ℤ) (step : Step) : Type 0 where
  pub description : next.desc ≡ now.desc
  pub words : next.words ≡ now.words
  pub is : IsStep (table now.desc) now.words (machine.next rest) now next step

pub stepped : (now next : Simulator) (rest : List ℤ) (step : Step) (taken : Option ℤ) → next.desc ≡ now.desc → next.words ≡ now.words → taken ≡ machine.next rest
    → IsStep (table now.desc) now.words taken now next step → Stepped now next rest step
stepped now next rest step taken d w e h = record { description = d; words = w; is = subst (λ (o : Option ℤ). IsStep (table now.desc) now.words o now next step) e h }

-- the step, of the description and the words at the start
step_at : (s : Start) (now next : Simulator) (rest : List ℤ) (bound more : ℕ) (a b : Option (List ℕ)) (step : Step) → SoFar s now rest bound more a b → Stepped now next rest step
    → IsStep s.description s.words (machine.next rest) now next step
step_at s now next rest bound more a b step f h =
    subst (λ (t : Table). IsStep t s.words (machine.next rest) now next step) f.description
    (subst (λ (w : List ℕ). IsStep (table now.desc) w (machine.next rest) now next step) f.words h.is)

halted_as : (t : Table) (words : List ℕ) (next : Option ℤ) (old new : Simulator) (step : Step) → old.halted ≡ None → IsStep t words next old new step → new.halted ≡ halt_told step
halted_as t words next old new step none h = (subst (IsStepFrom t words next old new step) none h).1

-- a run goes on after a step that went
after : (s : Start) (now next : Simulator) (rest : List ℤ) (bound more : ℕ) (a b : Option (List ℕ)) (step : Step) (f : SoFar s now rest bound (suc more) a b)
    → IsStep s.description s.words (machine.next rest) now next step → None ≡ stop_after step
    → (r : RunOutcome) → Runs s.description s.words more (at next.cells (left (took_told step) rest)) r
    → RunsFrom s bound (record { out = (f.out ++ option_to_list (put_by step)) ++ r.out; stop = r.stop })
after s now next rest bound more a b step f h e r runs =
    let turn = subst (IsTurn s.description s.words (at now.cells rest)) (told_go step next.cells rest e) (a_turn s.description s.words now next step rest f.going h) in
    subst (λ (t : List ℤ). RunsFrom s bound (record { out = t; stop = r.stop })) (sym (append_assoc f.out (option_to_list (put_by step)) r.out))
    (f.goes_on (put_before (option_to_list (put_by step)) r) (Goes (option_to_list (put_by step)) (at next.cells (left (took_told step) rest)), turn, (r, runs, refl)))

-- a run ends with a step that stops it
ends : (s : Start) (now next : Simulator) (rest : List ℤ) (bound more : ℕ) (a b : Option (List ℕ)) (step : Step) (stop : machine.Stop) (f : SoFar s now rest bound (suc more) a b)
    → IsStep s.description s.words (machine.next rest) now next step → Some stop ≡ stop_after step
    → RunsFrom s bound (record { out = f.out ++ option_to_list (put_by step); stop = stop })
ends s now next rest bound more a b step stop f h e =
    let turn = subst (IsTurn s.description s.words (at now.cells rest)) (told_end step next.cells rest stop e) (a_turn s.description s.words now next step rest f.going h) in
    f.goes_on (record { out = option_to_list (put_by step); stop = stop }) (Ends (option_to_list (put_by step)) stop, turn, refl)

-- the lines so far, and the one of this step
took_more : (a b c : Option (List ℕ)) (xs : List ℤ) (o : Option ℤ) → Took a b (output_lines xs) → Took b c (output_text o) → Took a c (output_lines (xs ++ option_to_list o))
took_more a b c xs o p q = subst (Took a c) (sym (outputs_more xs o)) (took_append a b c (output_lines xs) (output_text o) p q)

-- after a step with which the run doesn't stop, and the line of its output
pub one_more : (s : Start) (now next : Simulator) (rest later : List ℤ) (bound more : ℕ) (a b c : Option (List ℕ)) (step : Step) → SoFar s now rest bound (suc more) a b
    → Stepped now next rest step → None ≡ stop_after step → Took b c (output_text (put_by step)) → later ≡ left (took_told step) rest → SoFar s next later bound more a c
one_more s now next rest later bound more a b c step f h e t is =
    let step_is = step_at s now next rest bound (suc more) a b step f h in
    record {
      description = ap table h.description ∙ f.description;
      words = h.words ∙ f.words;
      going = halted_as s.description s.words (machine.next rest) now next step f.going step_is ∙ still_going step e;
      fit = subst (AllFit s.description) (sym is) (left_fits s.description (took_told step) rest f.fit);
      out = f.out ++ option_to_list (put_by step);
      took = took_more a b c f.out (put_by step) f.took t;
      goes_on = λ r runs. after s now next rest bound more a b step f step_is e r (subst (λ (zs : List ℤ). Runs s.description s.words more (at next.cells zs) r) is runs);
    }

-- after the last step of the bound
pub put_all : (s : Start) (now : Simulator) (rest : List ℤ) (bound : ℕ) (a b : Option (List ℕ)) → SoFar s now rest bound 0 a b → PutsOutputs s bound a b machine.Running
put_all s now rest bound a b f = record {
  out = f.out;
  runs = subst (λ (t : List ℤ). RunsFrom s bound (record { out = t; stop = machine.Running })) (append-nil f.out) (f.goes_on (record { out = []; stop = machine.Running }) refl);
  took = f.took;
}

-- after a step with which the run stops, and the line of its output
pub put_to_stop : (s : Start) (now next : Simulator) (rest : List ℤ) (bound more : ℕ) (a b c : Option (List ℕ)) (step : Step) (stop : machine.Stop) → SoFar s now rest bound (suc more) a b
    → Stepped now next rest step → Some stop ≡ stop_after step → Took b c (output_text (put_by step)) → PutsOutputs s bound a c stop
put_to_stop s now next rest bound more a b c step stop f h e t = record {
  out = f.out ++ option_to_list (put_by step);
  runs = ends s now next rest bound more a b step stop f (step_at s now next rest bound (suc more) a b step f h) e;
  took = took_more a b c f.out (put_by step) f.took t;
}

-- ---- what a run comes to, where its words are decided

has_follow : (t : Table) (words : List ℕ) (n : ℕ) → ((s : Now) → (o : RunOutcome) × Runs t words n s o) → (turn : Turn) → (o : RunOutcome) × Follows (Runs t words n) turn o
has_follow t words n more (Goes out s) = let p = more s in (put_before out p.0, (p.0, p.1, refl))
has_follow t words n more (Ends out stop) = (record { out = out; stop = stop }, refl)

has_outcome : (t : Table) (words : List ℕ) → AreDecided t words → (n : ℕ) (s : Now) → (o : RunOutcome) × Runs t words n s o
has_outcome t words known zero s = (record { out = []; stop = machine.Running }, refl)
has_outcome t words known (suc n) s =
    let f = known (pc_now t s) in
    let p = has_follow t words n (has_outcome t words known n) (found_turn t s f.0) in
    (p.0, (found_turn t s f.0, (f.0, f.1, refl), p.1))

-- an outcome, with no outputs behind its own
whole : (s : Start) (bound : ℕ) (out : List ℤ) (stop : machine.Stop) → RunsFrom s bound (record { out = out; stop = stop }) → RunsFrom s bound (record { out = out ++ []; stop = stop })
whole s bound out stop r = subst (λ (t : List ℤ). RunsFrom s bound (record { out = t; stop = stop })) (sym (append-nil out)) r

-- What the whole run puts out: the outputs so far, the step's, and more.
rest_of : (s : Start) (now next : Simulator) (rest : List ℤ) (bound more : ℕ) (a b : Option (List ℕ)) (step : Step) (f : SoFar s now rest bound (suc more) a b) → AreDecided s.description s.words
    → IsStep s.description s.words (machine.next rest) now next step → (o : Option machine.Stop) → o ≡ stop_after step
    → (last : List ℤ) × (stop : machine.Stop) × RunsFrom s bound (record { out = (f.out ++ option_to_list (put_by step)) ++ last; stop = stop })
rest_of s now next rest bound more a b step f known h None e =
    let o = has_outcome s.description s.words known more (at next.cells (left (took_told step) rest)) in
    (o.0.out, o.0.stop, after s now next rest bound more a b step f h e o.0 o.1)
rest_of s now next rest bound more a b step f known h (Some stop) e =
    ([], stop, whole s bound (f.out ++ option_to_list (put_by step)) stop (ends s now next rest bound more a b step stop f h e))

-- a front of the line of a step's output was taken
pub put_cut : (s : Start) (now next : Simulator) (rest : List ℤ) (bound more : ℕ) (a b c : Option (List ℕ)) (step : Step) → AreDecided s.description s.words → SoFar s now rest bound (suc more) a b
    → Stepped now next rest step → TookFront b c (output_text (put_by step)) → PutsCutOutputs s bound a c
put_cut s now next rest bound more a b c step known f h t =
    let is = step_at s now next rest bound (suc more) a b step f h in
    let o = rest_of s now next rest bound more a b step f known is (stop_after step) refl in
    record {
      run = record { out = (f.out ++ option_to_list (put_by step)) ++ o.0; stop = o.1 };
      runs = o.2;
      took =
          subst (TookFront a c) (sym (outputs_append (f.out ++ option_to_list (put_by step)) o.0))
          (front_of_first a c (output_lines (f.out ++ option_to_list (put_by step))) (output_lines o.0)
          (subst (TookFront a c) (sym (outputs_more f.out (put_by step))) (front_after a b c (output_lines f.out) (output_text (put_by step)) f.took t)));
    }

-- ---- the whole text

-- the simulator that was opened begins the run
pub opened_is : (s : Simulator) (r : Ready) (input : List ℤ) → input ≡ r.numbers.items
    → s ≡ record { desc = r.graph.desc; words = r.image.words.items; cells = machine.first_cells (table r.graph.desc) (map initial_of r.image.inits.items); halted = None } → start s input ≡ opened r
opened_is s r input is e =
    ap (λ (zs : List ℤ). start s zs) is ∙ ap (λ (q : Simulator). start q r.numbers.items) e
    ∙ ap (λ (js : List machine.Initial). record { description = table r.graph.desc; words = r.image.words.items; cells = machine.first_cells (table r.graph.desc) js; input = r.numbers.items }) (same_initials r.image.inits.items)

-- a front of the lines of the outputs alone
pub cut_in_outputs : (s : Start) (bound : ℕ) (a b : Option (List ℕ)) → PutsCutOutputs s bound a b → PutsCutRun s bound a b
cut_in_outputs s bound a b h = record { run = h.run; runs = h.runs; took = front_of_first a b (output_lines h.run.out) (stop_line h.run.stop) h.took }

-- the lines of the outputs, and a front of the line that tells how the run stopped
pub cut_in_stop : (s : Start) (bound : ℕ) (a b c : Option (List ℕ)) (stop : machine.Stop) → PutsOutputs s bound a b stop → TookFront b c (stop_line stop) → PutsCutRun s bound a c
cut_in_stop s bound a b c stop h t = record {
  run = record { out = h.out; stop = stop };
  runs = h.runs;
  took = front_after a b c (output_lines h.out) (stop_line stop) h.took t;
}

-- the lines of the outputs, and the line that tells how the run stopped
pub put_whole : (s : Start) (bound : ℕ) (a b c : Option (List ℕ)) (stop : machine.Stop) (status : Status) → PutsOutputs s bound a b stop → Took b c (stop_line stop)
    → status ≡ stop_status stop → PutsRun s bound a c status
put_whole s bound a b c stop status h t e = record {
  run = record { out = h.out; stop = stop };
  runs = h.runs;
  took = took_append a b c (output_lines h.out) (stop_line stop) h.took t;
  is = e;
}

-- what the end after a fault says of success doesn't matter
pub ends_alike : (fault : WriteFault) (x y : Status) (b c : Option (List ℕ)) (g h : ℕ) (s : Status) → ended.Ends (Err fault) x b c g h s → ended.Ends (Err fault) y b c g h s
ends_alike faults.Failed x y b c g h s e = e
ends_alike faults.Memory x y b c g h s e = e

-- what a fault does to the count doesn't hang on what it stands for
pub counts_alike : (A B : Type 0) (fault : WriteFault) (f g : ℕ) → CountsPuts {A = A} f g (Err fault) → CountsPuts {A = B} f g (Err fault)
counts_alike A B faults.Failed f g c = c
counts_alike A B faults.Memory f g c = c

-- a run whose text was cut is told
pub tells_cut : (s : Start) (bound : ℕ) (a b c : Option (List ℕ)) (f g h : ℕ) (fault : WriteFault) (any status : Status) → PutsCutRun s bound a b
    → CountsPuts {A = Status} f g (Err fault) → ended.Ends (Err fault) any b c g h status → TellsRun s bound a c f h status
tells_cut s bound a b c f g h fault any status r counts e =
    TellsRunOf r.run r.runs
    (told_by (told_run r.run) a b c f g h (Err fault) status tt r.took (counts_alike Status (Unit {0}) fault f g counts) (ends_alike fault any (told_run r.run).status b c g h status e))

-- a run whose text was taken whole is told
pub tells_whole : (s : Start) (bound : ℕ) (a b : Option (List ℕ)) (f g : ℕ) (status : Status) → PutsRun s bound a b status → g ≡ f → TellsRun s bound a b f g status
tells_whole s bound a b f g status r counts = TellsRunOf r.run r.runs (Whole r.took counts r.is)
