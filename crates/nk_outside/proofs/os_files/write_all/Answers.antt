use Rattle.std.proofs.Common.{arith}
use Rattle.nk_outside.proofs.Handing.{sent_more}
use Rattle.nk_outside.proofs.os_files.write_all.Goals as goal

pub loop-rest-preserved : goal.loop-rest-preserved
loop-rest-preserved g c = sent_more _ _ _ _ c.loop-rest.rest.now c.in-Ok.count _ c.loop-rest.invariant c.in-Ok.ensures.bytes (omega arith)
