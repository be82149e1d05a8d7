use Rattle.std.proofs.Common.{take}
use Rattle.disasm_tool.specs.Lines.{HasWordLines}
use Rattle.nml_tree.specs.Table.{table}
use Rattle.disasm_tool.proofs.words.push_words.Given as goal

abbrev pub invariant-loop-word : goal.invariant-loop-word
invariant-loop-word l = HasWordLines (table l.g.desc) l.g.word_bits (take l.word-index l.words) l.fn.out l.out
