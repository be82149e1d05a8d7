use Rattle.std.proofs.Common.{ap, length}
use Rattle.c_flat.proofs.Grown.{grew_push}
use Rattle.c_flat.proofs.node.push_node.Goals as goal

pub returns : goal.returns
returns c = rw c.in_ok-push.ensures.items (grew_push c.args.nodes.now.items c.args.node _ c.requires.falls c.requires.below (ap length c.as_slice-number.ensures.value))
