-- Steps of a simulator, and the turns of the machine.
use Rattle.std.proofs.Common.{ℕ, zero, suc, ◌+◌, ◌≡◌, refl, sym, ◌∙◌, ap, subst, arith, ℤ, pos, List, [], Some, None, Option, Bool, true, false}
use Rattle.std.specs.Prelude.{option_map, slice_get}
use Rattle.std.specs.Option.{option_to_list}
use Rattle.nml_tree.specs.Table.{Table}
use Rattle.nml_tree.specs.Derivation.{Derivation}
use Rattle.nml_tree.specs.Value.{Cells}
use Rattle.nml_tree.specs.Exec as exec
use Rattle.nml_tree.specs.Exec.{Exec, Effect, after}
use Rattle.nml_tree.specs.Machine as machine
use Rattle.nml_tree.specs.Machine.{Turn, Goes, Ends, Found, Nothing, Bad, Instruction, IsFound, IsInstruction, IsTurn, RunOutcome, Runs, Stop, halted, left, pc_now, put_before, turn_of}
use Rattle.bit_sim.specs.declared.step.Step.{Step}
use Rattle.bit_sim.specs.declared.step.Step.TheVariants as step
use Rattle.bit_sim.specs.Simulator.{Simulator, IsStep, IsStepFrom, IsStepBy, answered, at, behind, behind_found, takes, takes_found, took_told, turn_told}

-- a step of a machine that hasn't halted is a turn of it
pub a_turn : (t : Table) (words : List ℕ) (old new : Simulator) (told : Step) (input : List ℤ) → old.halted ≡ None → IsStep t words (machine.next input) old new told
    → IsTurn t words (at old.cells input) (turn_told told new.cells input)
a_turn t words old new told input none h =
    let k = subst (IsStepFrom t words (machine.next input) old new told) none h in
    (k.0.0, k.0.1.found, k.0.1.turn input refl)

pub longer : (t : Table) (words : List ℕ) (old new : Simulator) (out : Option ℤ) (took : Bool) (input : List ℤ) (n : ℕ) (o : RunOutcome) → old.halted ≡ None
    → IsStep t words (machine.next input) old new (step.Went out took) → Runs t words n (at new.cells (left took input)) o
    → Runs t words (n + 1) (at old.cells input) (put_before (option_to_list out) o)
longer t words old new out took input n o none h runs =
    let e : n + 1 ≡ suc n = omega arith in
    rw e (_, a_turn t words old new (step.Went out took) input none h, (o, runs, refl))

pub ended : (t : Table) (words : List ℕ) (old new : Simulator) (told : Step) (input out : List ℤ) (stop : Stop) (n : ℕ) → old.halted ≡ None
    → IsStep t words (machine.next input) old new told → turn_told told new.cells input ≡ Ends out stop
    → Runs t words (n + 1) (at old.cells input) (record { out = out; stop = stop })
ended t words old new told input out stop n none h is =
    let e : n + 1 ≡ suc n = omega arith in
    rw e (Ends out stop, subst (IsTurn t words (at old.cells input)) is (a_turn t words old new told input none h), refl)

-- ---- the step that is made

-- there is no word, or none that is an instruction
pub by_nothing : (t : Table) (words : List ℕ) (next : Option ℤ) (old new : Cells) → slice_get words (pc_now t (at old [])) ≡ None → new ≡ old
    → IsStepBy t words next old new (step.NoWord (pc_now t (at old []))) Nothing
by_nothing t words next old new none same = record { found = none; turn = λ input is. refl; cells = same; took = refl }

pub by_bad : (t : Table) (words : List ℕ) (next : Option ℤ) (old new : Cells) (w : ℕ) → slice_get words (pc_now t (at old [])) ≡ Some w → ((x : Derivation) → IsInstruction t w x → ⊥) → new ≡ old
    → IsStepBy t words next old new (step.BadWord (pc_now t (at old []))) Bad
by_bad t words next old new w stands none same = record { found = (w, stands, none); turn = λ input is. refl; cells = same; took = refl }

-- the turn that an effect makes, by its halt code
turn_by : (t : Table) (e : Effect) (halt : Option ℕ) (cells new : Cells) (input : List ℤ) → e.halt ≡ option_map pos halt → new ≡ after t cells e
    → turn_told (answered e.out e.took halt) new input ≡ halted e.halt (option_to_list e.out) (at (after t cells e) (left e.took input))
turn_by t e None cells new input h n = rw (h, n) refl
turn_by t e (Some code) cells new input h n = rw h refl

took_by : (out : Option ℤ) (took : Bool) (halt : Option ℕ) → took_told (answered out took halt) ≡ took
took_by out took None = refl
took_by out took (Some code) = refl

pub by_done : (t : Table) (words : List ℕ) (next : Option ℤ) (old new : Cells) (w : ℕ) (x : Derivation) (e : Effect) (halt : Option ℕ) → slice_get words (pc_now t (at old [])) ≡ Some w → IsInstruction t w x
    → exec.exec t x old next ≡ exec.Does e → e.halt ≡ option_map pos halt → new ≡ after t old e
    → IsStepBy t words next old new (answered e.out e.took halt) (Instruction x)
by_done t words next old new w x e halt stands is does halt_is cells_are = record {
  found = (w, stands, is);
  turn = λ input front. turn_by t e halt old new input halt_is cells_are ∙ sym (ap (turn_of t (at old input)) (ap (exec.exec t x old) front ∙ does));
  cells = cells_are ∙ sym (ap (behind t old) does);
  took = took_by e.out e.took halt ∙ sym (ap takes does);
}

pub by_want : (t : Table) (words : List ℕ) (next : Option ℤ) (old new : Cells) (w : ℕ) (x : Derivation) → slice_get words (pc_now t (at old [])) ≡ Some w → IsInstruction t w x
    → exec.exec t x old next ≡ exec.Wants → new ≡ old
    → IsStepBy t words next old new step.Wants (Instruction x)
by_want t words next old new w x stands is wants same = record {
  found = (w, stands, is);
  turn = λ input front. sym (ap (turn_of t (at old input)) (ap (exec.exec t x old) front ∙ wants));
  cells = same ∙ sym (ap (behind t old) wants);
  took = sym (ap takes wants);
}
