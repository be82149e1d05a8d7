use Rattle.std.proofs.Common.{arith}
use Rattle.nml_words.proofs.Pass.{next_place, all_spans}
use Rattle.nml_words.proofs.rules.spans.Goals as goal

pub loop-p-preserved : goal.loop-p-preserved
loop-p-preserved c = next_place c.args.names.now c.requires.free c.args.order.now c.requires.order c.loop-p.p c.loop-p-test.true _ _ c.loop-p.invariant c.in_ok-set_span.ensures

pub returns : goal.returns
returns c = all_spans c.args.names.now c.args.order.now c.loop-p.p c.loop-p.spans.items c.requires.order (let f = c.loop-p-test.false in omega (arith, f)) c.loop-p.invariant
