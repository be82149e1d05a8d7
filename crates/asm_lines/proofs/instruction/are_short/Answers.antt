use Rattle.std.proofs.Common.{sym, arith}
use Rattle.asm_lines.proofs.Runs.{short_is}
use Rattle.asm_lines.proofs.instruction.are_short.Goals as goal

pub loop-c-init : goal.loop-c-init
loop-c-init c = (sym (short_is c.args.text.now), omega arith)
