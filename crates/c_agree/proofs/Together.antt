-- A sound program and its statements agree, and no run of the statements breaks a promise.
use Rattle.std.proofs.Common.{◌≡◌, ℕ, ℤ, List, [], ap, sym, ◌∙◌, subst, arith}
use Rattle.std.specs.Prelude.{All}
use Rattle.nk_outside.specs.Outcome.{Outcome}
use Rattle.nk_outside.specs.Agree.{GoesOn, Stopped, Further, Agree}
use Rattle.nk_outside.specs.declared.stop.Stop.TheVariants as stops
use Rattle.ir_core.specs.Inputs.{IsNumber}
use Rattle.ir_run.specs.Simulation.{Meets}
use Rattle.ir_run.specs.Run as statements
use Rattle.ir_run.specs.Strict as strict
use Rattle.ir_run.specs.Strict.{broken}
use Rattle.ir_run.specs.Promise.{RunsSafely}
use Rattle.ir_run.proofs.Agreement.{agree_met, agree_sym}
use Rattle.c_tree.specs.Program.{Program}
use Rattle.c_tree.specs.Meaning as source
use Rattle.c_tree.specs.Meaning.{call, run_body, stopped, outcome}
use Rattle.c_tree.specs.Lowered.{Halts, lowered}
use Rattle.c_tree.specs.AgreeIr.{AgreeIr}
use Rattle.c_lowered.specs.Sound.{Sound}
use Rattle.c_promise.proofs.Lax.{run_lax}
use Rattle.c_agree.proofs.World.{Machine, Ground, IsBody, Fits, Met, env}
use Rattle.c_agree.proofs.Grounds.{ground_of}
use Rattle.c_agree.proofs.Bodies.{main_body, main_begins}
use Rattle.c_agree.proofs.Beginning.{fits_beginning}
use Rattle.c_agree.proofs.Unbroken.{outcome_unbroken}

-- what a run of `main` comes to, from its mark on, where calls of functions come to what they mean
abbrev pub MainMet : (p : Program) (n : ℕ) → Sound p n → Type 0
MainMet p n sound = (body : IsBody (ground_of p n sound) Halts sound.main 0) (d : ℕ) (st : source.State) (m : Machine) → Fits (ground_of p n sound) d st m 0
    → Met (ground_of p n sound) 0 st.out m st.turns (run_body (env (ground_of p n sound) body.here (call p n d) d) sound.main.body (λ z. stopped stops.Ended) st)

module _ (p : Program) (n : ℕ) (sound : Sound p n) (main_met : MainMet p n sound) where
  -- the statements, and how the program lies in them
  abbrev g : Ground
  g = ground_of p n sound

  outcome_is : (input : List ℤ) (turns : ℕ) → run_body (env g (main_body p n sound).here (call p n turns) turns) sound.main.body (λ z. stopped stops.Ended) (source.beginning p input turns) ≡ outcome p n input turns
  outcome_is input turns =
      ap (λ b. run_body (record { bits = n; calls = call p n turns; base = b }) sound.main.body (λ z. stopped stops.Ended) (source.beginning p input turns)) (main_begins p n sound)
      ∙ ap (λ f. run_body (record { bits = n; calls = call p n turns; base = source.main_base p }) (source.main_body f) (λ z. stopped stops.Ended) (source.beginning p input turns)) (sym sound.main_is)

  -- each bounded run of the program is met by the machine that watches the statements
  pub met : (input : List ℤ) → All (IsNumber n) input → (turns : ℕ) → Meets (strict.step g.arrays g.code n) g.weight 0 [] (statements.beginning (lowered p n) input) turns (outcome p n input turns)
  met input numbers turns =
      subst (λ o. Meets (strict.step g.arrays g.code n) g.weight 0 [] (statements.beginning (lowered p n) input) turns o) (outcome_is input turns)
      (main_met (main_body p n sound) turns (source.beginning p input turns) (statements.beginning (lowered p n) input) (fits_beginning p n sound input numbers turns))

  agrees_strictly : (input : List ℤ) → All (IsNumber n) input → Agree (outcome p n input) (strict.outcome (lowered p n) n input)
  agrees_strictly input numbers =
      agree_met (strict.step g.arrays g.code n) g.weight 0 (statements.beginning (lowered p n) input) (outcome p n input) (omega arith) (λ turns. met input numbers turns)

  -- no run of the statements breaks a promise
  pub runs_safely : RunsSafely (lowered p n) n
  runs_safely input numbers steps e = let back = (agrees_strictly input numbers).back steps in by_case (outcome p n input back.0) (outcome_unbroken p n input back.0) back.1
    where
      by_case : (o : Outcome) → (o.stop ≡ broken → ⊥) → GoesOn (strict.outcome (lowered p n) n input steps) o → ⊥
      by_case o unbroken (Stopped same) = unbroken (ap (λ o. o.stop) (sym same) ∙ e)
      by_case o unbroken (Further running more out) = let no : stops.Running ≡ stops.Trap 256 = sym running ∙ e in cc

  met_lax : (input : List ℤ) → All (IsNumber n) input → (turns : ℕ) → Meets (statements.step g.code n) g.weight 0 [] (statements.beginning (lowered p n) input) turns (outcome p n input turns)
  met_lax input numbers turns =
      let h = met input numbers turns in
      let begin = statements.beginning (lowered p n) input in
      let same = run_lax g.arrays g.code n h.steps begin (λ e. outcome_unbroken p n input turns (ap (λ o. o.stop) (sym h.same) ∙ e)) in
      record { steps = h.steps; enough = h.enough; same = ap (λ o. record { out = o.out; stop = o.stop }) (sym same) ∙ h.same }

  -- the statements print and stop as the program does
  pub agrees : AgreeIr (lowered p n) p n
  agrees input numbers =
      agree_sym (outcome p n input) (statements.outcome (lowered p n) n input)
      (agree_met (statements.step g.code n) g.weight 0 (statements.beginning (lowered p n) input) (outcome p n input) (omega arith) (λ turns. met_lax input numbers turns))
