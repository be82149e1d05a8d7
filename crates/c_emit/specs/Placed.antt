-- For contracts: how a function is left, and the statements of commands and functions where they stand.
use Rattle.std.specs.Prelude.{ℕ, ◌+◌, pos, Bool, false, List, [], ◌∷◌, ◌++◌, if◌then◌else◌}
use Rattle.ir_run.specs.Node.{Const}
use Rattle.ir_run.specs.Entry.{Entry, Jump, Mark}
use Rattle.c_tree.specs.Program.{Term, Command}
use Rattle.c_tree.specs.Code.{Layout, Aim, Value, AsValue, Piece, piece, is_value, side, cells, marks}
use Rattle.c_tree.specs.Lowered as lowered
use Rattle.c_tree.specs.Lowered.{command_cells, command_marks, leave, leave_with, statements}
use Rattle.c_pieces.specs.declared.layout.At.{At}
use Rattle.c_emit.specs.declared.spot.Leaving.{Leaving}
use Rattle.c_emit.specs.declared.spot.Leaving.TheVariants as leaving
use Rattle.c_emit.specs.declared.spot.Ends.{Ends}
use Rattle.c_emit.specs.declared.spot.Spot.{Spot}

-- how a function is left, as the table of lowering sees it
abbrev pub leaving_shown : Leaving → lowered.Leaving
leaving_shown leaving.Halts = lowered.Halts
leaving_shown (leaving.Returns result ret) = lowered.Returns result ret

-- where `break` and `continue` go to, as the table of lowering sees it
abbrev pub ends_shown : Ends → lowered.Ends
ends_shown e = record { broke = e.broke; continued = e.continued }

-- the statements of a command that stand here
abbrev pub steps_at : Layout → Spot → Command → List Entry
steps_at t s x = statements t (leaving_shown s.leaving) (ends_shown s.ends) s.cell s.label x

-- where those stand that come behind a command
abbrev pub behind : Spot → Command → Spot
behind s x = record { leaving = s.leaving; ends = s.ends; cell = s.cell + command_cells x; label = s.label + command_marks x }

-- where those stand that come behind an expression which aims at v
abbrev pub past : Spot → Aim → Term → Spot
past s v e = record { leaving = s.leaving; ends = s.ends; cell = s.cell + cells false (is_value (side v)) e; label = s.label + marks (side v) e }

-- where those stand that have a mark before them
abbrev pub inside : Spot → Spot
inside s = record { leaving = s.leaving; ends = s.ends; cell = s.cell; label = s.label + 1 }

-- where those of a loop's body stand, by the labels that `break` and `continue` in it go to
abbrev pub looped : Spot → (broke continued : ℕ) → Spot
looped s broke continued = record { leaving = s.leaving; ends = record { broke = broke; continued = continued }; cell = s.cell; label = s.label }

-- where those stand that come behind this cell, and behind the labels of an array's index
abbrev pub behind_index : Spot → (cell : ℕ) → Term → Spot
behind_index s cell i = record { leaving = s.leaving; ends = s.ends; cell = cell + 1; label = s.label + marks AsValue i }

-- where a full expression stands that is evaluated here
abbrev pub full : Spot → At
full s = record { cell = s.cell; label = s.label; later = false }

-- the piece of a value that is evaluated here
abbrev pub value_at : Layout → Spot → Term → Piece
value_at t s e = piece t s.cell s.label false Value e

-- the steps of a condition that stands here and aims at v
abbrev pub condition_at : Layout → Spot → Aim → Term → List Entry
condition_at t s v e = (piece t s.cell s.label false v e).steps

-- the label behind a `for` whose body stands here
abbrev pub end_of_turns : Spot → (step body : Command) → ℕ
end_of_turns s step x = s.label + command_marks x + 1 + command_marks step

-- what a `for` that begins at this label has behind its condition, where its body stands here
abbrev pub turns : Layout → Spot → (start : ℕ) → (step body : Command) → List Entry
turns t s start step x =
    let next = s.label + command_marks x in
    statements t (leaving_shown s.leaving) (record { broke = end_of_turns s step x; continued = next }) s.cell s.label x
    ++ Mark next ∷ statements t (leaving_shown s.leaving) (ends_shown s.ends) (s.cell + command_cells x) (next + 1) step
    ++ Jump start ∷ Mark (end_of_turns s step x) ∷ []

-- the end of a function's body, by whether it gives a value and whether the last thing in it is a `return`
abbrev pub end_over : lowered.Leaving → (gives returns : Bool) → List Entry
end_over leaving gives returns = if returns then [] else if gives then leave_with leaving (Const (pos 0)) else leave leaving
