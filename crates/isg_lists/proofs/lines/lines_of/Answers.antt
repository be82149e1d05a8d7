use Rattle.isg_lists.proofs.Lined.{lines_all}
use Rattle.isg_lists.proofs.lines.lines_of.Goals as goal

pub returns : goal.returns
returns c = lines_all c.args.shapes.now (record { words = c.in_ok-words.words; lists = c.in_ok-lists.lists }) c.in_ok-words.ensures c.in_ok-lists.ensures
