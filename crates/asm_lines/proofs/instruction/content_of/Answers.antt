use Rattle.asm_lines.proofs.Held.{nothing_is, instruction_is}
use Rattle.asm_lines.proofs.instruction.content_of.Goals as goal

pub returns-then-are_none : goal.returns-then-are_none
returns-then-are_none c = nothing_is _ c.if-are_none.ensures

pub returns-else-are_none : goal.returns-else-are_none
returns-else-are_none c = instruction_is _ c.if-are_none.ensures
