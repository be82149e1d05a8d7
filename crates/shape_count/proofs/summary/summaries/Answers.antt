use Rattle.shape_count.proofs.Bests.{one_more}
use Rattle.shape_count.proofs.summary.summaries.Goals as goal

pub loop-number-preserved : goal.loop-number-preserved
loop-number-preserved c = one_more c.args.names.now c.items-items.result.now c.loop-number.number c.loop-number.all.items c.push.new.self.items _ c.in_ok-one.one c.items-items.ensures c.loop-number.invariant c.loop-number-test.true c.index-items-number.is c.in_ok-one.ensures c.in_ok-push.ensures.items
