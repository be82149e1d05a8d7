-- A run so far, step by step: what is left of it is the run's outcome, and the lines so far were taken.
use Rattle.std.proofs.Common.{◌≡◌, refl, sym, ap, ◌∙◌, subst, ℕ, ◌<◌, arith, ℤ, List, [], ◌∷◌, ◌++◌, append-nil, Option, Some, None}
use Rattle.std.proofs.lemmas.Grind.{flat_map-append}
use Rattle.nk_outside.specs.Outcome.{Outcome, line, lines}
use Rattle.nk_outside.specs.Taken.{Took, TookFront}
use Rattle.nk_outside.specs.declared.stop.Stop.{Stop}
use Rattle.nk_outside.proofs.Pieces.{took_append, front_after, front_of_first}
use Rattle.c_tree.specs.Program.{Program}
use Rattle.c_tree.specs.Meaning.{stopped, outcome}
use Rattle.c_frames.specs.Steps.{Config, Move, Goes, Stops, step, moved_on, follow, begin, rest_of, Follows, HasStopped, ahead, ahead_config, ahead_move, steps_left}
use Rattle.c_frames.proofs.Keeps.{follows}
use Rattle.c_frames.specs.Small.{IsSmallProgram, IsSmallWork, IsSmall}
use Rattle.c_frames.proofs.Small.{step_small}
use Rattle.c_frames.proofs.Halts.{from_begin}
use Rattle.c_frames.proofs.Ahead.{follow_ahead, stops_behind, left_ahead, fewer_left}
use Rattle.c_machine.specs.declared.code.Code.{Code}
use Rattle.c_machine.specs.declared.machine.Machine.{Machine}
use Rattle.c_machine.specs.declared.task.Moved.{Moved}
use Rattle.c_machine.specs.declared.task.Moved.TheVariants as moves
use Rattle.c_machine.specs.declared.task.Task.{Task}
use Rattle.c_machine.specs.declared.task.Task.TheVariants as tasks
use Rattle.c_machine.specs.Small.{IsSmallTask}
use Rattle.c_machine.specs.Stands.{config_of, move_of, state_of, work_of}
use Rattle.c_eval.specs.Running.{Running, left}

lines_more : (xs ys : List ℤ) → lines (xs ++ ys) ≡ lines xs ++ lines ys
lines_more xs ys = flat_map-append line xs ys

lines_one : (xs : List ℤ) (z : ℤ) → lines (xs ++ z ∷ []) ≡ lines xs ++ line z
lines_one xs z = lines_more xs (z ∷ []) ∙ ap (λ l. lines xs ++ l) (append-nil (line z))

took_nothing : (now : Option (List ℕ)) → Took now now []
took_nothing None = tt
took_nothing (Some xs) = sym (append-nil xs)

pub nothing_taken : (now : Option (List ℕ)) (bytes : List ℕ) → TookFront now now bytes
nothing_taken now bytes = ([], (bytes, refl), took_nothing now)

module _ (p : Program) (c : Code) (input : List ℤ) where
  abbrev config : Machine → List ℤ → Config p c.bits
  config m out = config_of p c.bits c.nodes.items input m out

  -- what a move says of the machine, for all outputs before
  abbrev pub Moves : (old new : Machine) → Moved → Type 0
  Moves old new r = (out : List ℤ) → move_of p c.bits c.nodes.items input new out r ≡ step p c.bits (config old out)

  config_ahead : (m : Machine) (out : List ℤ) → config m out ≡ ahead_config p c.bits out (config m [])
  config_ahead m out = ap (config m) (sym (append-nil out))

  end_of : (o : Outcome) (m : Machine) (out : List ℤ) (k : ℕ) (t : Move p c.bits) → follow p c.bits k (config m []) ≡ t → HasStopped p c.bits t → Follows p c.bits o (follow p c.bits k (config m out)) → (more : List ℤ) × (o.out ≡ out ++ more)
  end_of o m out k (Goes d) is h f = absurd h
  end_of o m out k (Stops stop s) is h f =
      let to : follow p c.bits k (config m out) ≡ Stops stop (ahead p c.bits out s) =
      ap (follow p c.bits k) (config_ahead m out) ∙ follow_ahead p c.bits k out (config m []) ∙ ap (ahead_move p c.bits out) is in
      let g : o ≡ stopped stop (ahead p c.bits out s) = subst (Follows p c.bits o) to f in
      (s.out, ap (λ o. o.out) g)

  -- what is put out in the end begins so
  outputs_begin : (o : Outcome) (m : Machine) (out : List ℤ) (k : ℕ) → o ≡ rest_of p c.bits (config m out) → HasStopped p c.bits (follow p c.bits k (config m [])) → (more : List ℤ) × (o.out ≡ out ++ more)
  outputs_begin o m out k is h = end_of o m out k (follow p c.bits k (config m [])) refl h (follows p c.bits k o (config m out) is)

  on_step : (o : Outcome) (d : Config p c.bits) (t : Move p c.bits) → o ≡ rest_of p c.bits d → t ≡ step p c.bits d → Follows p c.bits o (moved_on p c.bits (follow p c.bits 0) t)
  on_step o d t h is = subst (λ t. Follows p c.bits o (moved_on p c.bits (follow p c.bits 0) t)) (sym is) (follows p c.bits 1 o d h)

  pub goes : (o : Outcome) (most : ℕ) (start now : Option (List ℕ)) (old new : Machine) → Running p c input o most start now old → Moves old new moves.Goes → Running p c input o most start now new × (left p c input most new < left p c input most old)
  goes o most start now old new r is =
      let f = fewer_left p c.bits most r.steps (config old []) (config new []) r.within r.stopped (sym (is [])) in
      let s = step_small p c.bits r.program (config old []) (config new []) (record { work = r.work; frames = r.frames }) (sym (is [])) in (
        record {
          out = r.out;
          follows = on_step o (config old r.out) (Goes (config new r.out)) r.follows (is r.out);
          took = r.took;
          steps = f.steps;
          within = f.within;
          stopped = f.stopped;
          program = r.program;
          work = s.work;
          frames = s.frames;
        },
        f.fewer,
      )

  put_on : (o : Outcome) (most : ℕ) (start now : Option (List ℕ)) (old new : Machine) (z : ℤ) → (r : Running p c input o most start now old) → Moves old new (moves.Puts z) → o ≡ rest_of p c.bits (config new (r.out ++ z ∷ []))
  put_on o most start now old new z r is = on_step o (config old r.out) (Goes (config new (r.out ++ z ∷ []))) r.follows (is r.out)

  pub puts : (o : Outcome) (most : ℕ) (start now then : Option (List ℕ)) (old new : Machine) (z : ℤ) → Running p c input o most start now old → Moves old new (moves.Puts z) → Took now then (line z) → Running p c input o most start then new × (left p c input most new < left p c input most old)
  puts o most start now then old new z r is took =
      let f = fewer_left p c.bits most r.steps (config old []) (config new (z ∷ [])) r.within r.stopped (sym (is [])) in
      let same : left p c input most new ≡ steps_left p c.bits most (config new (z ∷ [])) = sym (left_ahead p c.bits most (z ∷ []) (config new [])) in
      let s = step_small p c.bits r.program (config old []) (config new (z ∷ [])) (record { work = r.work; frames = r.frames }) (sym (is [])) in (
        record {
          out = r.out ++ z ∷ [];
          follows = put_on o most start now old new z r is;
          took = subst (Took start then) (sym (lines_one r.out z)) (took_append start now then (lines r.out) (line z) r.took took);
          steps = f.steps;
          within = f.within;
          stopped = stops_behind p c.bits f.steps (z ∷ []) (config new []) f.stopped;
          program = r.program;
          work = s.work;
          frames = s.frames;
        },
        subst (λ k. k < left p c input most old) (sym same) f.fewer,
      )

  pub put_cut : (o : Outcome) (most : ℕ) (start now then : Option (List ℕ)) (old new : Machine) (z : ℤ) → Running p c input o most start now old → Moves old new (moves.Puts z) → TookFront now then (line z) → TookFront start then (lines o.out)
  put_cut o most start now then old new z r is took =
      let f = fewer_left p c.bits most r.steps (config old []) (config new (z ∷ [])) r.within r.stopped (sym (is [])) in
      let e = outputs_begin o new (r.out ++ z ∷ []) f.steps (put_on o most start now old new z r is) (stops_behind p c.bits f.steps (z ∷ []) (config new []) f.stopped) in
      let whole : lines o.out ≡ (lines r.out ++ line z) ++ lines e.0 = ap lines e.1 ∙ lines_more (r.out ++ z ∷ []) e.0 ∙ ap (λ l. l ++ lines e.0) (lines_one r.out z) in
      subst (TookFront start then) (sym whole) (front_of_first start then (lines r.out ++ line z) (lines e.0) (front_after start now then (lines r.out) (line z) r.took took))

  pub cut : (o : Outcome) (most : ℕ) (start now : Option (List ℕ)) (old : Machine) → Running p c input o most start now old → TookFront start now (lines o.out)
  cut o most start now old r =
      let e = outputs_begin o old r.out r.steps r.follows r.stopped in
      (lines r.out, (lines e.0, sym (ap lines e.1 ∙ lines_more r.out e.0)), r.took)

  pub stops : (o : Outcome) (most : ℕ) (start now : Option (List ℕ)) (old new : Machine) (stop : Stop) → Running p c input o most start now old → Moves old new (moves.Stops stop) → (o.stop ≡ stop) × Took start now (lines o.out)
  stops o most start now old new stop r is =
      let f : o ≡ stopped stop (state_of input new r.out) = on_step o (config old r.out) (Stops stop (state_of input new r.out)) r.follows (is r.out) in
      (ap (λ o. o.stop) f, subst (λ out. Took start now (lines out)) (sym (ap (λ o. o.out) f)) r.took)

  -- within so many steps a run that pays so many turns stops
  abbrev pub most : ℕ → ℕ
  most turns = (from_begin p c.bits input turns).0

  -- at the beginning the body of `main` is to be run
  begin_small : (turns : ℕ) → IsSmallProgram p → IsSmall p c.bits (begin p c.bits input turns)
  begin_small turns small = record { work = small.main; frames = tt }

  pub begun : (m : Machine) (turns : ℕ) (now : Option (List ℕ)) → IsSmallProgram p → config m [] ≡ begin p c.bits input turns → Running p c input (outcome p c.bits input turns) (most turns) now now m
  begun m turns now small is = let s = subst (IsSmall p c.bits) (sym is) (begin_small turns small) in record {
    out = [];
    follows = sym (ap (rest_of p c.bits) is);
    took = took_nothing now;
    steps = most turns;
    within = omega arith;
    stopped = subst (λ d. HasStopped p c.bits (follow p c.bits (most turns) d)) (sym is) (from_begin p c.bits input turns).1;
    program = small;
    work = s.work;
    frames = s.frames;
  }

  -- what is in hand in code
  pub task_small : (zs : List ℤ) (t : Task) → IsSmallWork p c.bits (work_of p c.bits c.nodes.items zs t) → IsSmallTask c.nodes.items t
  task_small zs (tasks.Eval k) h = h
  task_small zs (tasks.Arguments k) h = tt
  task_small zs (tasks.Give z) h = tt
  task_small zs tasks.Pass h = tt
  task_small zs (tasks.Run k) h = tt
  task_small zs tasks.Nothing h = tt
  task_small zs (tasks.Again l b) h = tt
  task_small zs tasks.On h = tt
  task_small zs tasks.Leave h = tt
  task_small zs tasks.Onward h = tt
  task_small zs (tasks.Back z) h = tt
