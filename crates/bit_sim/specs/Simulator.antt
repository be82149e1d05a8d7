-- A simulator, and what a step of it is of the machine.
use Rattle.std.specs.Prelude.{ℕ, ◌≡◌, ◌<◌, ◌^◌, Bool, ℤ, pos, List, [], map, Option, None, Some, false, slice_get}
use Rattle.std.specs.Option.{option_to_list}
use Rattle.std.specs.List.{AllByRecursion}
use Rattle.nk_base.specs.Number.{width_of}
use Rattle.nml_tree.specs.declared.tree.Desc.{Desc}
use Rattle.nml_tree.specs.Table.{Table}
use Rattle.nml_tree.specs.Value.{Cells}
use Rattle.nml_tree.specs.Exec as exec
use Rattle.nml_tree.specs.Exec.{Exec, after, storage_type}
use Rattle.nml_tree.specs.Machine as machine
use Rattle.nml_tree.specs.Machine.{Now, Turn, Goes, Ends, Found, Instruction, IsFound, Initial, found_turn, left, pc_now, zeros}
use Rattle.nml_state.specs.Cells.{HasCell}
use Rattle.image_file.specs.declared.image.DataCell.{DataCell}
use Rattle.bit_sim.specs.declared.step.Step.{Step}
use Rattle.bit_sim.specs.declared.step.Step.TheVariants as step

-- the description, the words of the image, what the cells hold, and the code with which the machine has halted
pub record Simulator : Type 0 where
  pub desc : Desc
  pub words : List ℕ
  pub cells : Cells
  pub halted : Option ℕ

-- a machine of these cells, with this input before it
abbrev pub at : Cells → List ℤ → Now
at cells input = record { cells = cells; input = input }

-- the turn that a step tells, which left these cells, the input before it being this
abbrev pub turn_told : Step → Cells → List ℤ → Turn
turn_told (step.Went out took) cells input = Goes (option_to_list out) (at cells (left took input))
turn_told step.Wants cells input = Ends [] machine.Wanted
turn_told (step.Halted code out took) cells input = Ends (option_to_list out) (machine.Halted (pos code))
turn_told (step.NoWord pc) cells input = Ends [] (machine.NoWord pc)
turn_told (step.BadWord pc) cells input = Ends [] (machine.BadWord pc)

-- what a step tells of an instruction that put this out, took the input or not, and halted with this code or went on
abbrev pub answered : Option ℤ → Bool → Option ℕ → Step
answered out took None = step.Went out took
answered out took (Some code) = step.Halted code out took

-- the code with which the step halted the machine
abbrev pub halt_told : Step → Option ℕ
halt_told (step.Halted code out took) = Some code
halt_told _ = None

-- whether the step took the input
abbrev pub took_told : Step → Bool
took_told (step.Went out took) = took
took_told (step.Halted code out took) = took
took_told _ = false

-- whether an instruction takes the input, and the cells behind it; one that wants input leaves them
abbrev pub takes : Exec → Bool
takes exec.Wants = false
takes (exec.Does e) = e.took

abbrev pub behind : Table → Cells → Exec → Cells
behind t cells exec.Wants = cells
behind t cells (exec.Does e) = after t cells e

-- the same of what is found at PC; where that is no instruction, the cells are left
abbrev pub takes_found : Table → Cells → Option ℤ → Found → Bool
takes_found t cells next (Instruction d) = takes (exec.exec t d cells next)
takes_found t cells next _ = false

abbrev pub behind_found : Table → Cells → Option ℤ → Found → Cells
behind_found t cells next (Instruction d) = behind t cells (exec.exec t d cells next)
behind_found t cells next _ = cells

-- where this is found, the step tells the turn of the machine whatever input stands behind the next one, and leaves these cells
pub record IsStepBy (t : Table) (words : List ℕ) (next : Option ℤ) (old new : Cells) (told : Step) (f : Found) : Type 0 where
  pub found : IsFound t (slice_get words (pc_now t (at old []))) f
  pub turn : (input : List ℤ) → machine.next input ≡ next → turn_told told new input ≡ found_turn t (at old input) f
  pub cells : new ≡ behind_found t old next f
  pub took : took_told told ≡ takes_found t old next f

-- a machine that has halted stays so; another has halted where the step says so
abbrev pub IsStepFrom : Table → List ℕ → Option ℤ → Simulator → Simulator → Step → Option ℕ → Type 0
IsStepFrom t words next old new told None = ((f : Found) × IsStepBy t words next old.cells new.cells told f) × (new.halted ≡ halt_told told)
IsStepFrom t words next old new told (Some code) = (new ≡ old) × (told ≡ step.Halted code None false)

-- one step of a simulator, with the next input where there is one
abbrev pub IsStep : Table → List ℕ → Option ℤ → Simulator → Simulator → Step → Type 0
IsStep t words next old new told = IsStepFrom t words next old new told old.halted

-- a data cell of an image as an initial value
abbrev pub initial_of : DataCell → Initial
initial_of i = record { storage = i.storage; cell = i.cell; raw = i.value }

-- the initial value is of a cell that there is, and has the bits of its type
abbrev pub IsInitial : Table → DataCell → Type 0
IsInitial t i = HasCell (zeros t) i.storage i.cell × (i.value < 2 ^ width_of (storage_type t i.storage))

-- and so is each
abbrev pub AreInitial : Table → List DataCell → Type 0
AreInitial t inits = AllByRecursion (IsInitial t) inits
