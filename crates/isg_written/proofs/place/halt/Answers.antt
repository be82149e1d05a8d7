use Rattle.isg_written.proofs.Statements.{halt_adds}
use Rattle.isg_written.proofs.place.halt.Goals as goal

pub returns-clause-adds : goal.returns-clause-adds
returns-clause-adds c = halt_adds _ _ _ _ _ _ _ _ _ c.in_ok-n.ensures.grows c.in_ok-n.ensures.found c.push.ensures.pushes
