-- For private contracts: what was put out of a run.
use Rattle.std.specs.Prelude.{◌≡◌, ℕ, List, ℤ, pos, Bool, true, false, Option, Some, None, Result, Ok, Err}
use Rattle.nk_outside.specs.Taken.{Took, TookFront}
use Rattle.nk_outside.specs.declared.files.WriteFault.{WriteFault}
use Rattle.nml_tree.specs.Machine as machine
use Rattle.nml_tree.specs.Machine.{RunOutcome, Runs, RunsImage}
use Rattle.nml_tree.specs.Table.{Table, table}
use Rattle.nml_tree.specs.Value.{Cells}
use Rattle.image_file.specs.File.{Picture}
use Rattle.image_file.specs.Seen.{picture_of}
use Rattle.bit_sim.specs.Simulator.{Simulator, at}
use Rattle.bit_sim.specs.declared.step.Step.{Step}
use Rattle.bit_sim.specs.declared.step.Step.TheVariants as steps
use Rattle.nml_reply.specs.Reply.{output_lines, starved, told_run}
use Rattle.nml_reply.specs.Seen.{stop_of}
use Rattle.nml_reply.specs.Told.{Told}
use Rattle.nml_reply.specs.declared.status.Status.{Status}
use Rattle.nml_reply.specs.declared.stop.Stop.{Stop}
use Rattle.nml_suite.specs.Coming.{initials}
use Rattle.nml_suite.specs.declared.ready.Ready.{Ready}

-- what a step puts out
abbrev pub put_by : Step → Option ℤ
put_by (steps.Went out took) = out
put_by steps.Wants = None
put_by (steps.Halted code out took) = out
put_by (steps.NoWord place) = None
put_by (steps.BadWord place) = None

-- how a run stops after this step, where it does
abbrev pub stop_after : Step → Option machine.Stop
stop_after (steps.Went out took) = None
stop_after steps.Wants = Some machine.Wanted
stop_after (steps.Halted code out took) = Some (machine.Halted (pos code))
stop_after (steps.NoWord place) = Some (machine.NoWord place)
stop_after (steps.BadWord place) = Some (machine.BadWord place)

-- where a run begins: the description, the words, the cells, and the input
pub record Start : Type 0 where
  pub description : Table
  pub words : List ℕ
  pub cells : Cells
  pub input : List ℤ

-- at most so many steps from there come to this outcome
abbrev pub RunsFrom : Start → ℕ → RunOutcome → Type 0
RunsFrom s bound r = Runs s.description s.words bound (at s.cells s.input) r

-- the start of a simulator with an input before it
abbrev pub start : Simulator → List ℤ → Start
start s input = record { description = table s.desc; words = s.words; cells = s.cells; input = input }

-- the run of at most so many steps stops so, and a line for each of its outputs was taken
pub record PutsOutputs (s : Start) (bound : ℕ) (old new : Option (List ℕ)) (stop : machine.Stop) : Type 0 where
  pub out : List ℤ
  pub runs : RunsFrom s bound (record { out = out; stop = stop })
  pub took : Took old new (output_lines out)

-- a front of the lines for the outputs of the run was taken
pub record PutsCutOutputs (s : Start) (bound : ℕ) (old new : Option (List ℕ)) : Type 0 where
  pub run : RunOutcome
  pub runs : RunsFrom s bound run
  pub took : TookFront old new (output_lines run.out)

abbrev pub IsPut : Start → ℕ → Option (List ℕ) → Option (List ℕ) → Result Stop WriteFault → Type 0
IsPut s bound old new (Ok stop) = PutsOutputs s bound old new (stop_of stop)
IsPut s bound old new (Err fault) = PutsCutOutputs s bound old new

-- the run's text was taken, and this is its status
pub record PutsRun (s : Start) (bound : ℕ) (old new : Option (List ℕ)) (status : Status) : Type 0 where
  pub run : RunOutcome
  pub runs : RunsFrom s bound run
  pub took : Took old new (told_run run).text
  pub is : status ≡ (told_run run).status

-- a front of the run's text was taken
pub record PutsCutRun (s : Start) (bound : ℕ) (old new : Option (List ℕ)) : Type 0 where
  pub run : RunOutcome
  pub runs : RunsFrom s bound run
  pub took : TookFront old new (told_run run).text

abbrev pub IsRun : Start → ℕ → Option (List ℕ) → Option (List ℕ) → Result Status WriteFault → Type 0
IsRun s bound old new (Ok status) = PutsRun s bound old new status
IsRun s bound old new (Err fault) = PutsCutRun s bound old new

-- the text of the run was told; or memory was wanted before it began, which is told
pub data TellsRun (s : Start) (bound : ℕ) (old new : Option (List ℕ)) (before now : ℕ) (status : Status) : Type 0 where
  TellsRunOf : (run : RunOutcome) → RunsFrom s bound run → Told (told_run run) old new before now status → TellsRun s bound old new before now status
  TellsNone : Told starved old new before now status → TellsRun s bound old new before now status

-- the start of a run of an image on an input
abbrev pub opened : Ready → Start
opened r = record {
  description = table r.graph.desc;
  words = r.image.words.items;
  cells = machine.first_cells (table r.graph.desc) (initials (picture_of r.image));
  input = r.numbers.items;
}
