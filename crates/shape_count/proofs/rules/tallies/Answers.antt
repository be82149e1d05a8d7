use Rattle.std.proofs.Common.{arith}
use Rattle.shape_count.proofs.Pass.{next_place, all_tallies}
use Rattle.shape_count.proofs.rules.tallies.Goals as goal

pub loop-p-preserved : goal.loop-p-preserved
loop-p-preserved c = next_place c.args.names.now c.requires.free c.args.order.now c.requires.order c.loop-p.p c.loop-p-test.true _ _ c.loop-p.invariant c.set_tally.ensures

pub returns : goal.returns
returns c = all_tallies c.args.names.now c.args.order.now c.loop-p.p c.loop-p.tallies.items c.requires.order (let f = c.loop-p-test.false in omega (arith, f)) c.loop-p.invariant
