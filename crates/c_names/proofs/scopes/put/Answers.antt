use Rattle.std.proofs.Common.{◌∙◌}
use Rattle.c_names.proofs.Insertions.{inserted}
use Rattle.c_names.proofs.scopes.put.Goals as goal

pub returns : goal.returns
returns c = (rw c.in_ok-clone.ensures.cases at c.in_ok-insert.ensures.entries) ∙ inserted c.args.list.now.entries c.args.name.now c.args.meaning
