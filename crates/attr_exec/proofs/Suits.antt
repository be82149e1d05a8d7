-- What an action gives suits the places that get it, in each state of the description.
use Rattle.std.specs.Prelude.{◌≡◌, ℤ, true, unsigned_abs, List, map, Option, slice_get}
use Rattle.nml_tree.specs.Table.{Table}
use Rattle.nml_tree.specs.Act as act
use Rattle.nml_tree.specs.Act.{Act}
use Rattle.nml_tree.specs.Value.{Cells, value}
use Rattle.nml_tree.specs.Exec.{Course, storages, trn_types, out_type}
use Rattle.nml_state.specs.Cells.{Shown}
use Rattle.nml_state.specs.Wrapping.{has_cell, wraps, wraps_into}
use Rattle.nml_widths.specs.Fitting.{AreOfTypes}
use Rattle.attr_exec.specs.Seen.{view}
use Rattle.attr_exec.specs.Ran.{Scene}

-- in the middle of an instruction: the cells are as it began, and all is of its type
pub record IsNow (t : Table) (zs : List ℤ) (next : Option ℤ) (cells : Cells) (s : Shown) : Type 0 where
  pub types_are : s.types ≡ map (λ x. x.1) (storages t)
  pub trn_types_are : s.trn_types ≡ trn_types t
  pub cells_are : s.cells ≡ cells
  pub typed : AreOfTypes t (view zs s next)

-- each place that gets a value is there, and can hold it
abbrev pub Suits : Table → List ℤ → Option ℤ → Cells → Act → Type 0
Suits t zs next cells act.Done = Unit {0}
Suits t zs next cells (act.SetCell n i e rest) =
    ((s : Shown) → IsNow t zs next cells s → (has_cell s.cells n (unsigned_abs (value (view zs s next) i)) ≡ true) × (wraps_into (slice_get s.types n) (value (view zs s next) e) ≡ true)) × Suits t zs next cells rest
Suits t zs next cells (act.SetTrn n e rest) = ((s : Shown) → IsNow t zs next cells s → wraps_into (slice_get s.trn_types n) (value (view zs s next) e) ≡ true) × Suits t zs next cells rest
Suits t zs next cells (act.Put e rest) = ((s : Shown) → IsNow t zs next cells s → wraps (out_type t) (value (view zs s next) e) ≡ true) × Suits t zs next cells rest
Suits t zs next cells (act.Halt e rest) = Suits t zs next cells rest
Suits t zs next cells (act.When e x y rest) = Suits t zs next cells x × Suits t zs next cells y × Suits t zs next cells rest

-- what is done so far, as the definition of an instruction has it
abbrev pub course_of : Scene → Course
course_of c = record { trns = c.state.trns; effect = record { writes = c.state.kept; out = c.done.out; halt = c.done.halt; took = c.done.took } }
