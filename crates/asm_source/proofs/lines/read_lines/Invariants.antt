use Rattle.asm_source.proofs.Forming.{Forming}
use Rattle.asm_source.proofs.LineFronts.{size_left}
use Rattle.asm_source.proofs.lines.read_lines.Given as goal

abbrev pub invariant-loop-rest : goal.invariant-loop-rest
invariant-loop-rest l = Forming l.width l.text l.number l.rest l.lines.items

abbrev pub decreases-loop-rest : goal.decreases-loop-rest
decreases-loop-rest l = size_left l.rest
