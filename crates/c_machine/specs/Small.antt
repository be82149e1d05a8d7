-- For private contracts: small numbers in what a machine in code has in hand.
use Rattle.std.specs.Prelude.{List}
use Rattle.c_flat.specs.declared.node.Node.{Node}
use Rattle.c_frames.specs.Small.{IsSmallTerm}
use Rattle.c_machine.specs.declared.task.Task.{Task}
use Rattle.c_machine.specs.declared.task.Task.TheVariants as tasks
use Rattle.c_flat.specs.Sorts.{term_at}

-- the expression that is to be evaluated has small numbers, where one is
abbrev pub IsSmallTask : List Node → Task → Type 0
IsSmallTask ns (tasks.Eval k) = IsSmallTerm (term_at ns k)
IsSmallTask ns _ = Unit {0}
