use Rattle.std.proofs.Common.{◌∙◌, ap}
use Rattle.std.proofs.lemmas.Option.{slice_get-get_or}
use Rattle.c_tally.specs.Over.{counted}
use Rattle.c_tally.proofs.Nodes.{front_more}
use Rattle.c_tally.proofs.count.tally_nodes.Goals as goal

pub loop-node-preserved : goal.loop-node-preserved
loop-node-preserved c =
    rw c.in_ok-push.ensures.items (front_more c.args.nodes.now c.loop-node.node-index c.loop-node.tallies.items _ c.in_ok-tally.tally c.requires.falls c.loop-node.invariant (slice_get-get_or c.args.nodes.now c.loop-node.node-index _ c.loop-node-test.true) (c.in_ok-tally.ensures ∙ ap (counted _) c.as_slice.ensures.value))
