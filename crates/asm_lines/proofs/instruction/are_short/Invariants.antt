use Rattle.std.proofs.Common.{◌≡◌, ◌≤◌, length}
use Rattle.asm_lines.specs.Line.{has_short_runs}
use Rattle.asm_lines.specs.Seen.{are_short}
use Rattle.asm_lines.proofs.instruction.are_short.Given as goal

abbrev pub invariant-loop-c : goal.invariant-loop-c
invariant-loop-c l = (has_short_runs l.text ≡ are_short l.run l.rest) × (l.run ≤ 38)

abbrev pub decreases-loop-c : goal.decreases-loop-c
decreases-loop-c l = length l.rest
