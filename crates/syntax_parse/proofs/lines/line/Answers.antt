use Rattle.syntax_parse.proofs.Instances.{no_line, illegal, legal}
use Rattle.syntax_parse.proofs.lines.line.Goals as goal

pub returns-in-None : goal.returns-in-None
returns-in-None c = λ ts are. no_line c.args.g.now c.is_whole.ensures c.args.tokens.now ts are c.in-None.ensures

pub returns-then-conflict : goal.returns-then-conflict
returns-then-conflict c = λ ts are. illegal c.args.g.now c.is_whole.ensures c.args.tokens.now ts are _ c.in-Some.ensures c.if-conflict.ensures

pub returns-else-conflict : goal.returns-else-conflict
returns-else-conflict c = λ ts are. legal c.args.g.now c.is_whole.ensures c.args.tokens.now ts are _ c.in-Some.ensures c.if-conflict.ensures
