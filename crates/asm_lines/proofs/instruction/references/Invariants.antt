use Rattle.std.proofs.Common.{length}
use Rattle.asm_lines.specs.Seen.{others, BeginsPart}
use Rattle.asm_lines.proofs.Held.{Held}
use Rattle.asm_lines.proofs.instruction.references.Given as goal

abbrev pub invariant-loop-behind : goal.invariant-loop-behind
invariant-loop-behind l = Held (others l.text) (others l.rest) l.references.items × BeginsPart l.rest

abbrev pub decreases-loop-behind : goal.decreases-loop-behind
decreases-loop-behind l = length l.rest
