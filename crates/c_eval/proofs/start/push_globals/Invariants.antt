use Rattle.std.proofs.Common.{◌≡◌, ◌++◌, drop}
use Rattle.std.specs.List.{flat_map}
use Rattle.c_eval.specs.Laid.{cells_of_global}
use Rattle.c_eval.proofs.start.push_globals.Given as goal

abbrev pub invariant-loop-one : goal.invariant-loop-one
invariant-loop-one l = l.memory.items ++ flat_map cells_of_global (drop l.one-index l.globals) ≡ l.fn.memory.items ++ flat_map cells_of_global l.globals
