-- Functions by what is declared of them, and by their bodies.
use Rattle.std.specs.Prelude.{Bool, not}
use Rattle.c_flat.specs.declared.function.Body.{Body}
use Rattle.c_shapes.specs.declared.functions.Declared.{Declared}
use Rattle.c_plan.specs.declared.routine.Routine.{Routine}

-- a function of a plan, by what is declared of it and its body
abbrev pub paired : Declared × Body → Routine
paired (d, b) = record { gives = d.gives; returns = d.returns; variables = d.variables; body = b.node }

-- the function is called `main`
abbrev pub is_main : Declared × Body → Bool
is_main (d, b) = b.main

-- the function is called otherwise
abbrev pub is_other : Declared × Body → Bool
is_other (d, b) = not b.main
