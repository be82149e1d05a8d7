-- For private contracts: the functions of a program as they are laid out, by the bodies that were made of them.
use Rattle.std.specs.Prelude.{ℕ, ◌+◌, List, [], ◌∷◌, Option, Some, None, if◌then◌else◌}
use Rattle.std.specs.Prelude.{ℤ, flat_map}
use Rattle.c_tree.specs.declared.program.GVar.{GVar}
use Rattle.c_tree.specs.Meaning.{initial_cells}
use Rattle.c_tree.specs.declared.program.Global.{Global}
use Rattle.c_tree.specs.declared.program.Global.TheVariants as global
use Rattle.c_tree.specs.Names.{gvar_shape, gvars}
use Rattle.c_tree.specs.Resolve.{initials}
use Rattle.c_flat.specs.declared.function.Body.{Body}
use Rattle.c_machine.specs.declared.task.Task.{Task}
use Rattle.c_machine.specs.declared.task.Task.TheVariants as tasks
use Rattle.c_machine.specs.declared.code.Entry.{Entry}

-- the functions other than `main`, each with its first cell, from this cell on
abbrev pub entries_of : ℕ → List Body → List Entry
entries_of base [] = []
entries_of base (b ∷ bs) = if b.main then entries_of base bs else record { body = b.node; base = base } ∷ entries_of (base + b.cells) bs

-- how many cells they have
abbrev pub others_cells : List Body → ℕ
others_cells [] = 0
others_cells (b ∷ bs) = if b.main then others_cells bs else b.cells + others_cells bs

-- the first that is `main`
abbrev pub main_of : List Body → Option Body
main_of [] = None
main_of (b ∷ bs) = if b.main then Some b else main_of bs

abbrev pub main_cells : Option Body → ℕ
main_cells None = 0
main_cells (Some b) = b.cells

-- what is in hand at the beginning
abbrev pub task_of : Option Body → Task
task_of None = tasks.Nothing
task_of (Some b) = tasks.Run b.node

-- the cells of a global variable at the beginning
abbrev pub variable_cells : GVar → List ℤ
variable_cells v = initial_cells (record { shape = gvar_shape v; initial = initials v })

-- those of all that a global declares
abbrev pub cells_of_global : Global → List ℤ
cells_of_global (global.Vars v) = flat_map variable_cells (gvars v)
cells_of_global (global.Function f) = []
