use Rattle.std.proofs.Common.{rules}
use Rattle.isg_nodes.proofs.Growing.{grown_shared}
use Rattle.isg_nodes.proofs.grow.add.Goals as goal

pub returns-in-Some-find-clause-grown : goal.returns-in-Some-find-clause-grown
returns-in-Some-find-clause-grown c = grown_shared _ _ _ c.requires.falls (search rules)
