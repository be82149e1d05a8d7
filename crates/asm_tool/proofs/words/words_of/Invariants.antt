use Rattle.std.specs.Prelude.{map}
use Rattle.nml_tree.specs.Table.{table}
use Rattle.asm_lines.specs.Seen.{seen}
use Rattle.asm_tool.proofs.Walking.{Walked}
use Rattle.asm_tool.proofs.words.words_of.Given as goal

abbrev pub invariant-loop-line : goal.invariant-loop-line
invariant-loop-line l = Walked (table l.g.desc) (map seen l.lines) l.line-index l.number l.words.items l.conflict
