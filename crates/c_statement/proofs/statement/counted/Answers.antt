-- The statement of its parts.
use Rattle.c_tree.proofs.StatementLaws.{statement-For}
use Rattle.c_statement.proofs.statement.counted.Goals as goal

pub returns : goal.returns
returns c = statement-For c.args.at _ _ _ _ _ _ _ _
