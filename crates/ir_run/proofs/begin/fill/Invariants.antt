use Rattle.std.proofs.Common.{◌≡◌, drop}
use Rattle.ir_run.specs.Run.{filled}
use Rattle.ir_run.proofs.begin.fill.Given as goal

abbrev pub invariant-loop-k : goal.invariant-loop-k
invariant-loop-k l = filled l.cells.items (drop l.k-index l.start) ≡ filled l.fn.cells.items l.start
