use Rattle.std.proofs.Common.{arith}
use Rattle.nk_outside.proofs.Handing.{sent_more}
use Rattle.nk_outside.proofs.os_sink.OsSinkSink.put.Goals as goal

pub loop-rest-preserved : goal.loop-rest-preserved
loop-rest-preserved g c = (c.loop-rest.invariant.0, sent_more _ _ _ _ c.loop-rest.rest.now c.in-Ok.count _ c.loop-rest.invariant.1 c.in-Ok.ensures.bytes (omega arith))
