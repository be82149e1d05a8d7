use Rattle.std.proofs.Common.{◌≡◌, ◌+◌, length, reverse}
use Rattle.c_machine.specs.Filled.{put_all, filled}
use Rattle.c_machine.proofs.data.fill.Given as goal

-- what is left comes behind what was put, and the cells are still numbered
abbrev pub invariant-loop-z : goal.invariant-loop-z
invariant-loop-z l = record {
  rest : put_all l.memory.items l.at (reverse l.arguments.items) ≡ filled l.fn.memory.items l.fn.base l.fn.arguments.items;
  count : l.at + length l.arguments.items ≡ l.fn.base + length l.fn.arguments.items;
}

abbrev pub decreases-loop-z : goal.decreases-loop-z
decreases-loop-z l = length l.arguments.items
