-- The statements of functions over one layout.
use Rattle.std.specs.Prelude.{ℕ, ◌+◌, List, [], ◌∷◌, ◌++◌, Option, Some, None}
use Rattle.ir_run.specs.Entry.{Entry}
use Rattle.c_tree.specs.Program.{Function, sizes}
use Rattle.c_tree.specs.Code.{Frame, Layout}
use Rattle.c_tree.specs.Lowered.{Halts, Returns, function_steps}

-- the layout of a function whose cells begin here
abbrev pub based : Layout → ℕ → Layout
based t base = record { bits = t.bits; base = base; frames = t.frames; trap = t.trap }

-- the statements of `main`, whose cells begin where the layout says
abbrev pub steps_of_main : Layout → Option Function → List Entry
steps_of_main t None = []
steps_of_main t (Some f) = function_steps t Halts f (t.base + sizes f.variables) 0

-- the statements of the other functions, by their frames
abbrev pub steps_of_others : Layout → List Function → List Frame → List Entry
steps_of_others t (f ∷ fs) (g ∷ gs) =
    function_steps (based t g.first) (Returns g.result g.ret) f (g.first + sizes f.variables) g.label ++ steps_of_others t fs gs
steps_of_others t _ _ = []
