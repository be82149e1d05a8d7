use Rattle.std.proofs.Common.{◌≡◌, ◌+◌, ◌++◌, drop}
use Rattle.c_tree.specs.Lowered.{numbered}
use Rattle.c_homes.proofs.homes.numbered.Given as goal

abbrev pub invariant-loop-x : goal.invariant-loop-x
invariant-loop-x g l = (numbered l.first l.of ≡ l.cells ++ numbered l.cell (drop l.x-index l.of)) × (l.cell ≡ l.first + l.x-index)
