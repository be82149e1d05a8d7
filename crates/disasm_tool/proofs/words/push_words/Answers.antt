use Rattle.disasm_tool.proofs.LineSteps.{next_line}
use Rattle.nml_tree.specs.Table.{table}
use Rattle.disasm_tool.proofs.words.push_words.Goals as goal

pub loop-word-preserved : goal.loop-word-preserved
loop-word-preserved c =
    next_line (table c.args.g.now.desc) c.args.g.now.word_bits c.args.words.now c.loop-word.word-index 0 c.args.out.now c.loop-word.out c.push_word.new.out c.loop-word-test.true c.loop-word.invariant c.in_ok-push_word.ensures
