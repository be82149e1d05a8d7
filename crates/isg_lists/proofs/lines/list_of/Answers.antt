use Rattle.std.proofs.Common.{rules, None}
use Rattle.isg_lists.proofs.Alike.{kept_list}
use Rattle.isg_lists.proofs.lines.list_of.Goals as goal

pub returns-in-None : goal.returns-in-None
returns-in-None c = kept_list c.args.lists.now c.args.line None (search rules)
