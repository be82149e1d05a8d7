use Rattle.isg_written.proofs.Putting.{pushes}
use Rattle.isg_written.proofs.place.push.Goals as goal

pub returns-clause-pushes : goal.returns-clause-pushes
returns-clause-pushes c = pushes _ _ _ _ _ _ c.in_ok-n.ensures.grown c.requires.list c.in_ok-push.ensures.items
